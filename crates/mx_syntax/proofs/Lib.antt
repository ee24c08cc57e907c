mod BindLemmas
mod HeightLemmas
pub mod ListLemmas
mod LocalLemmas
pub mod BodySames
pub mod TreeSames
