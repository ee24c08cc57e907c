pub mod Fronts
pub mod Held
pub mod Numbers
pub mod Reading
pub mod Records
pub mod Writing
