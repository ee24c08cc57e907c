pub mod Goes
pub mod Homes
pub mod Targets
pub mod Sought
pub mod Endings
