pub mod Bearing
pub mod Flags
pub mod Held
pub mod Keeping
pub mod Values
