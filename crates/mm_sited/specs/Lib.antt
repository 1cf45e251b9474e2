pub mod Executing
pub mod Extents
pub mod Following
pub mod Taking
