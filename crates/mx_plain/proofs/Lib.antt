pub mod FirstMonths
pub mod Outcomes
