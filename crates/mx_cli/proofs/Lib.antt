pub mod WordLemmas
pub mod SureLemmas
