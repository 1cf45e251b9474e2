pub mod Bases
pub mod Closures
pub mod Growth
pub mod Members
pub mod Sets
