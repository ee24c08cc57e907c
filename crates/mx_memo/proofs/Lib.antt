pub mod Restoring
pub mod Order
pub mod Held
pub mod Last
