-- Cycles that are paced.
pub mod Carried
pub mod Driven
pub mod Extents
pub mod InTime
pub mod Noted
pub mod Ruled
pub mod Walked
