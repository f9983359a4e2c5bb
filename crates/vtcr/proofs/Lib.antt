pub mod FieldsBack
pub mod RoundTrip
pub mod Valid
