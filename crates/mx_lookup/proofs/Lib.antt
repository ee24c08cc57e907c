pub mod Paths
pub mod Overlaying
pub mod Going
