pub mod Encoded
pub mod Over
pub mod Word
