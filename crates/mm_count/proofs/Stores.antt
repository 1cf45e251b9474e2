pub mod Changes
pub mod Lowering
pub mod Stored
pub mod Writing
