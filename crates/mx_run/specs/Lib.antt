pub mod Script
pub mod Transcript
pub mod Session
pub mod At
pub mod Stop
pub mod Counts
pub mod Statuses
pub mod Laws
