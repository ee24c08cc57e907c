pub mod Seen
pub mod Distinct
pub mod Passed
