pub mod Halting
pub mod Rounds
pub mod Hiding
pub mod Multiplying
pub mod Choosing
pub mod Inheriting
pub mod Nested
pub mod Basing
mod Entries
mod Products
mod Choice
mod Inherited
mod Fixed
mod Lost
mod Circles
mod Failing
mod ItemRing
mod Replacing
mod Globals
mod Defaults
mod Putting
mod Deep
mod Cleared
