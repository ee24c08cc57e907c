pub mod Whole
pub mod Decimals
pub mod Ends
pub mod Sound
pub mod Steps
pub mod Printed
pub mod Back
