pub mod Couples
pub mod Entries
pub mod Flags
pub mod Partners
pub mod Making
pub mod Places
pub mod Writes
