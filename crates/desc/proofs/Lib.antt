pub mod WordFields
