pub mod Beginning
pub mod Births
pub mod Bound
pub mod Determined
pub mod Growing
pub mod Joined
pub mod Lengths
pub mod OneMore
