pub mod Colours
pub mod Draining
pub mod Marker
pub mod Parts
pub mod Refill
pub mod Stale
