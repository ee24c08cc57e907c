pub mod Formulas
pub mod Generated
