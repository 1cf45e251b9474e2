pub mod Areas
pub mod Kept
pub mod Stack
pub mod Views
