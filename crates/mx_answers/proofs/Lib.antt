pub mod Held
pub mod Unique
pub mod Alike
pub mod Steps
pub mod Records
pub mod Sifting
pub mod Retaining
pub mod Clearing
