pub mod Examples
pub mod LongestPage
