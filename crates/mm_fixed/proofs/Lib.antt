pub mod Clear
pub mod Kept
pub mod Left
pub mod Shown
pub mod Sound
