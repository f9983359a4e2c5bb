pub mod Examples
pub mod Faults
pub mod Rows
pub mod WithinRows
