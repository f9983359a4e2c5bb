pub mod Chain
pub mod LongestRuns
pub mod Reach
pub mod Reading
