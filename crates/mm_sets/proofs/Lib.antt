pub mod BitWrites
pub mod Changes
pub mod LowestBits
pub mod Sets
pub mod Zeros
