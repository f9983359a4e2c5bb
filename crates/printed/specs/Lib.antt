pub mod Line
pub mod Word
