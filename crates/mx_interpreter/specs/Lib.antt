pub mod Adding
pub mod Reached
pub mod Runs
pub mod Values
pub mod Walking
pub mod Plain
pub mod Together
pub mod Ahead
