pub mod OneCommand
pub mod Sequels
pub mod Parted
pub mod ByLines
pub mod Lines
