pub mod Grants
pub mod Noted
pub mod Owned
pub mod Widest
