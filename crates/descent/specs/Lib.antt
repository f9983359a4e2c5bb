pub mod Descent
pub mod Packed
pub mod Path
