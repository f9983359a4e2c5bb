pub mod Conflict
