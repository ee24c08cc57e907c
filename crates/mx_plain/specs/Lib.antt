pub mod Base
pub mod Figures
pub mod Months
pub mod Outcome
pub mod Savings
pub mod Term
