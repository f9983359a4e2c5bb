pub mod Filled
pub mod Onward
pub mod Placed
