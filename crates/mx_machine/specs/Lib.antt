pub mod States
pub mod Settings
pub mod Seeking
pub mod Closing
pub mod Behind
