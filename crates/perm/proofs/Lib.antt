pub mod EntryNames
