pub mod Areas
pub mod Cells
pub mod Making
pub mod Phases
pub mod Reading
pub mod Writing
