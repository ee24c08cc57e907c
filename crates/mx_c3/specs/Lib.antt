pub mod Lists
pub mod Counts
pub mod Merge
pub mod Taking
pub mod Linearisation
pub mod Known
pub mod Laws
pub mod InOrder
