pub mod Words
pub mod Literals
pub mod Expressions
pub mod Statements
pub mod Formulas
pub mod Nodes
pub mod ProperCommands
mod EditLiterals
mod Defaults
mod EditCommands
