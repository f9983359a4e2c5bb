pub mod Ascii
pub mod Bits
pub mod Named
pub mod Numbers
