pub mod BeyondVerification
pub mod Demand2
pub mod OutOfReach
pub mod Stops
pub mod Tabled
