pub mod Store
pub mod Stretch
pub mod Way
