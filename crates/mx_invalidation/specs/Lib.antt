pub mod Marked
pub mod Stamps
