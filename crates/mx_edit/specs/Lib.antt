pub mod Entry
pub mod Equality
pub mod Rows
pub mod Table
