mod ExprLemmas
mod HeightLemmas
mod LineLemmas
mod StatementLemmas
mod Walks
pub mod TextLemmas
