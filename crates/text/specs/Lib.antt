pub mod Digits
pub mod Front
