pub mod Held
pub mod Records
pub mod Answers
pub mod Retention
pub mod Laws
