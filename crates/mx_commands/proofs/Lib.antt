pub mod OneEdit
pub mod KeptAlike
pub mod SameTexts
pub mod Alike
pub mod Faithful
pub mod EditLemmas
pub mod Ticks
