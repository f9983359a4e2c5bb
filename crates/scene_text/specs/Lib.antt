pub mod Reading
pub mod Text
