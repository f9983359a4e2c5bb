pub mod Frames
pub mod Granules
pub mod Levels
pub mod Regimes
pub mod Registers
pub mod Words
pub mod Zeros
