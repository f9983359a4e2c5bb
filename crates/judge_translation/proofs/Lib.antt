pub mod Fetch
pub mod Outputs
pub mod Places
