pub mod Going
pub mod Inputs
pub mod Halting
pub mod Walks
pub mod Formulas
pub mod Naming
pub mod Stopping
pub mod Beginning
