pub mod Marking
pub mod Protected
pub mod Reached
pub mod Reapable
pub mod Scan
