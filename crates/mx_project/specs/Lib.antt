pub mod Folder
pub mod Lines
pub mod Writing
pub mod Reading
pub mod Refusals
pub mod Laws
pub mod Inputs
