pub mod Belonging
pub mod Completing
pub mod Cuts
pub mod Demand3
pub mod Readers
pub mod UpdateS
pub mod Sources
pub mod WordByWord
