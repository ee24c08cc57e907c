pub mod Texts
pub mod Words
pub mod Combined
pub mod Heads
pub mod HeadParsers
pub mod Phrases
pub mod PhraseParsers
pub mod Parts
