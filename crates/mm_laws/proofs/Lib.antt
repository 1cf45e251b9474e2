pub mod Keeping
pub mod Lines
pub mod Meaning
pub mod Phases
pub mod Stepping
pub mod Targets
pub mod Tracing
pub mod Turning
