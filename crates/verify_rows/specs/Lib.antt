pub mod Verifying
pub mod Word
