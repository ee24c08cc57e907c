pub mod Recorded
pub mod Flights
pub mod Ended
pub mod Laws
pub mod ItemsFirst
