pub mod Bits
pub mod Set
