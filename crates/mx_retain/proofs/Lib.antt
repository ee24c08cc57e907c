mod Changed
pub mod OneInput
