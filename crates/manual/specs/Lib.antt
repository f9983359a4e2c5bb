pub mod Agreement
pub mod Differences
pub mod Translation
