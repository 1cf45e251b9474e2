pub mod Colours
pub mod Header
pub mod Heap
pub mod Kept
pub mod Object
