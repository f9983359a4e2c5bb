pub mod Unmapped
