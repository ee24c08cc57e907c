pub mod Named
pub mod PrepareLemmas
pub mod Shapes
pub mod KeptShape
pub mod ReadLemmas
pub mod CompleteLemmas
