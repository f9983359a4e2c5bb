pub mod Cleared
pub mod Fits
