pub mod Fetch
pub mod Packed
