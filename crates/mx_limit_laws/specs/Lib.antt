pub mod Values
pub mod Literals
pub mod Replies
pub mod Texts
pub mod Laws
