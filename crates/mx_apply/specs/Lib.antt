pub mod Chain
pub mod Made
pub mod Needs
pub mod Room
