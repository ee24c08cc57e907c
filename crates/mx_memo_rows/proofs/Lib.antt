mod Found
pub mod Recent
