pub mod Changed
pub mod Keeps
pub mod KeptParts
pub mod Numbered
pub mod Rooms
pub mod Untouched
