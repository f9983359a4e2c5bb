pub mod Check
pub mod Layout
pub mod Size
pub mod Window
