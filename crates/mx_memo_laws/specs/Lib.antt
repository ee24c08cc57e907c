pub mod Entries
pub mod Laws
pub mod Keeping
