pub mod Model
pub mod Proper
pub mod State
pub mod Evaluations
pub mod Changes
pub mod Walks
pub mod Laws
