pub mod After
pub mod All
pub mod Carried
pub mod Loop
pub mod Nine
pub mod None
pub mod Parts
pub mod Sequence
