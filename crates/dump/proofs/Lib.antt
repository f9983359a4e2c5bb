pub mod InOrder
pub mod Whole
