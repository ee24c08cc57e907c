pub mod Expressions
pub mod Lines
pub mod Sizes
pub mod Statements
pub mod Texts
pub mod Values
