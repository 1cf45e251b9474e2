pub mod Bits
pub mod Region
pub mod Sizes
pub mod Tables
