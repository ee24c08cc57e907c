pub mod Places
pub mod Live
pub mod Kept
pub mod Held
pub mod Found
pub mod Reading
pub mod Inputs
pub mod Walks
