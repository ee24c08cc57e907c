mod WordLemmas
mod ReadNamed
mod ReadSmall
mod ReadLemmas
pub mod Pieces
pub mod ByText
pub mod Together
pub mod Faults
