pub mod Authorized
pub mod Entries
pub mod Exact
pub mod Examples
pub mod Longer
pub mod Stopped
