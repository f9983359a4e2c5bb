pub mod Computed
pub mod Examples
pub mod LongestPage
