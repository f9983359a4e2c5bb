pub mod Contains
pub mod Grants
pub mod Slot
