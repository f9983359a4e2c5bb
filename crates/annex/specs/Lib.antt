pub mod Annex
pub mod Onward
pub mod Windows
pub mod Writing
