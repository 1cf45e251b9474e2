pub mod AreaBirths
pub mod Births
pub mod Partners
pub mod Searching
pub mod Shapes
pub mod WeakReferences
