pub mod Dump
pub mod Pieces
