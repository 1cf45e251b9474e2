pub mod Apart
pub mod Composite
pub mod Counts
pub mod DeadApart
pub mod Kept
pub mod Listed
pub mod Sticky
pub mod Table
