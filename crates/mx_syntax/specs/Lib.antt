pub mod Binding
pub mod Equality
pub mod Heights
pub mod Lists
pub mod Locals
