pub mod Putting
pub mod Settling
pub mod Tight
pub mod Written
