pub mod Granule
pub mod StartLevel
