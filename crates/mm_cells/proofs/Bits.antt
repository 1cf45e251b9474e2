pub mod Codes
pub mod Free
pub mod Pages
pub mod Pairs
pub mod Sought
pub mod Whitened
