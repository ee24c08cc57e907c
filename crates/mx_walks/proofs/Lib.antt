pub mod Leading
pub mod Static
pub mod Comings
pub mod Ends
pub mod Indexing
