pub mod Collected
pub mod Emptied
pub mod Freed
pub mod Reaped
pub mod Sweeping
pub mod Unheld
pub mod ZeroCount
