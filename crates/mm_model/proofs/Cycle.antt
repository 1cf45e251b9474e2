pub mod ContinuedSteps
pub mod Continuing
pub mod Courses
pub mod Marked
