pub mod Authority
pub mod Widest
