pub mod Texts
pub mod Rows
pub mod Rings
pub mod Evaluations
pub mod Clearings
