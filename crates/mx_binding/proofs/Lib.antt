pub mod Asking
pub mod Recording
pub mod Testing
pub mod Passing
pub mod Settling
pub mod Binding
pub mod Resuming
