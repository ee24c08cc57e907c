pub mod ParsedLines
pub mod ReadBack
pub mod Proper
pub mod PlainValues
