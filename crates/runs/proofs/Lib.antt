pub mod Joined
pub mod Page
pub mod Pieces
