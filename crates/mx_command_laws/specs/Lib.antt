pub mod Sources
pub mod Commands
pub mod Edits
