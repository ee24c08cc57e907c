pub mod Ways
pub mod Laws
pub mod Calls
pub mod Near
