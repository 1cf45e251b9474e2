pub mod Choosing
pub mod Ends
pub mod Falling
pub mod LeastClass
pub mod Placing
pub mod Room
pub mod SeenAlike
pub mod SizeClasses
