pub mod All
pub mod Outcome
pub mod Table
pub mod Told
