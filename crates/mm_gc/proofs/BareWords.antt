pub mod Found
pub mod Heaps
pub mod Lists
pub mod Meant
pub mod Slots
pub mod States
