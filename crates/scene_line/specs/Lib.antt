pub mod Line
pub mod Long
