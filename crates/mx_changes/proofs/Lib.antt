pub mod BaseLemmas
pub mod EditLemmas
pub mod Free
pub mod GoneSpaces
pub mod KindChanges
pub mod NewSpaces
