pub mod ClassSizes
pub mod Classes
pub mod Grains
pub mod Reciprocals
