pub mod Examples
pub mod LiveSlots
pub mod Verified
