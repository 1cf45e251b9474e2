pub mod Cells
pub mod Fixed
pub mod Kept
pub mod Placing
