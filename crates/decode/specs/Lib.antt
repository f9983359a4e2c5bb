pub mod Decoded
pub mod Emitted
