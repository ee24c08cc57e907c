pub mod Names
pub mod Operators
pub mod Expressions
pub mod Statements
pub mod Parts
pub mod Pools
pub mod Told
