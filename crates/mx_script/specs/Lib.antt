pub mod Commands
pub mod Script
pub mod ByLines
pub mod Given
