pub mod Determining
pub mod Exist
pub mod Groups
pub mod Scans
