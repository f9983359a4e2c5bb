pub mod Across
pub mod Pieces
pub mod Placed
pub mod Rows
pub mod Slots
pub mod Writing
