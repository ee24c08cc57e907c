pub mod States
pub mod Finding
pub mod Calling
pub mod Returning
pub mod Machine
pub mod Fits
pub mod Laws
