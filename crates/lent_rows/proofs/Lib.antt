pub mod Codes
pub mod Read
