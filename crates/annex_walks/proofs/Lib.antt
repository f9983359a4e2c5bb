pub mod Annex
pub mod Below
