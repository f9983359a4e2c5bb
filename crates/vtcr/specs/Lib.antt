pub mod Fields
pub mod RoundTrip
pub mod Vtcr
