pub mod Filled
pub mod Found
pub mod Pins
pub mod Slots
