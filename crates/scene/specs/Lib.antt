pub mod Lent
pub mod Scene
