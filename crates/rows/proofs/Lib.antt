pub mod Examples
pub mod WithinRows
