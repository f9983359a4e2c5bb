pub mod PageType
