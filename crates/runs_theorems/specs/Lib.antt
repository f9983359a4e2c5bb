pub mod LongestRuns
pub mod Reading
