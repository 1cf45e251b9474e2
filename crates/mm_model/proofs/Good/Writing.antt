pub mod AreaStores
pub mod CountedStores
pub mod CountedWords
pub mod Shading
pub mod Sticking
pub mod Stores
