pub mod Alike
pub mod Walked
pub mod Bound
pub mod Binding
pub mod Staying
pub mod States
pub mod Evaluated
