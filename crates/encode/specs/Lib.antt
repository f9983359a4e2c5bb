pub mod Encoding
pub mod Fits
