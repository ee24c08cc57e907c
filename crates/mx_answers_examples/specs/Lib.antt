pub mod Small
pub mod Examples
pub mod FlightModel
pub mod Flights
