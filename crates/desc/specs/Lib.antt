pub mod Descriptor
pub mod WordFields
pub mod Words
