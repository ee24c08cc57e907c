pub mod Flights
pub mod Rings
pub mod Giving
pub mod Driving
pub mod Known
pub mod Asking
pub mod Passing
