pub mod Below
pub mod Default
pub mod Named
