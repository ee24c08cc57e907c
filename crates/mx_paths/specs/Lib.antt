pub mod Kept
pub mod Names
pub mod Orders
pub mod Siblings
pub mod Sorting
pub mod Table
pub mod Walking
