pub mod Beginning
pub mod SameLemmas
pub mod WorldLemmas
