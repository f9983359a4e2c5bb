pub mod At
pub mod Over
pub mod Runs
