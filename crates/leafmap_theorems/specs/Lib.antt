pub mod Authorized
pub mod Entries
pub mod Examples
