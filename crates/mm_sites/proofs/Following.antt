pub mod Bearing
pub mod Commands
pub mod Freeing
pub mod Room
pub mod Spans
pub mod Steps
