pub mod Completed
pub mod Named
pub mod Shape
pub mod Prepared
pub mod Read
