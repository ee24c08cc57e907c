pub mod Slots
pub mod Flight
pub mod Came
pub mod Callees
pub mod Returns
pub mod Walks
