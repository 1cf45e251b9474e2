pub mod Leaving
pub mod Reaching
