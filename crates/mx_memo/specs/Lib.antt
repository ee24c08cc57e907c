pub mod Restoring
pub mod Memos
pub mod Order
pub mod Namespaces
