pub mod Audit
pub mod Bits
pub mod Counts
pub mod Numbers
pub mod Objects
pub mod Parts
pub mod Places
pub mod Stack
