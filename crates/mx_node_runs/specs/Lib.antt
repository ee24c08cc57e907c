pub mod Behind
pub mod Halts
pub mod Begins
