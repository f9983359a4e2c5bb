pub mod Again
pub mod Dropped
pub mod Element
pub mod Lent
pub mod Local
