pub mod Asking
pub mod Records
pub mod Walking
pub mod Settles
pub mod Bound
