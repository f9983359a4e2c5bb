pub mod Accepted
pub mod Guarded
pub mod Windows
