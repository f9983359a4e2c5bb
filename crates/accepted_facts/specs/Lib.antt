pub mod Accepted
pub mod Guarded
