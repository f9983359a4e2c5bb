pub mod KindNames
