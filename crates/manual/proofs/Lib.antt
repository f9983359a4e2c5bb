pub mod Agreement
pub mod Alike
pub mod Differences
pub mod OneDescent
