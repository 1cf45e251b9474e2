pub mod Entries
pub mod Free
pub mod Kept
pub mod Pages
pub mod Parked
pub mod Tree
pub mod Visits
