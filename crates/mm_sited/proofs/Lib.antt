pub mod Executing
pub mod Extents
pub mod Taken
