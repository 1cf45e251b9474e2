pub mod Begun
pub mod FewStale
pub mod FinishCost
pub mod Marked
pub mod Reached
pub mod Scanned
pub mod Scanning
pub mod Stepping
