pub mod Arena
pub mod Examples
