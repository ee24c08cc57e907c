pub mod Members
pub mod Nodes
pub mod Growing
pub mod Sifting
pub mod Scopes
pub mod Stamps
pub mod Readers
pub mod Evaluations
