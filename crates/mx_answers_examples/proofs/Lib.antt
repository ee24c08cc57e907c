pub mod Small
pub mod Proved
pub mod FlightsProved
