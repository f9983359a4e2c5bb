pub mod RoundTrip
pub mod Vttbr
