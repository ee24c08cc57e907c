pub mod Growing
pub mod Standing
pub mod Waiting
pub mod Deep
pub mod Ends
pub mod Steps
mod Prefixes
mod Guarded
mod Carried
mod Walks
mod Nodes
mod Waits
