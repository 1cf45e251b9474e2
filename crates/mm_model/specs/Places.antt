pub mod Limits
pub mod Lowest
pub mod Place
pub mod Search
pub mod SizeClass
