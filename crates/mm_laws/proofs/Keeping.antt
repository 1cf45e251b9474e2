pub mod Following
pub mod FollowingSteps
pub mod Seeing
