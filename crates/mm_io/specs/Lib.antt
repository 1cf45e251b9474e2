pub mod Faults
pub mod Plan
pub mod Planned
pub mod Reel
pub mod Store
pub mod Streams
pub mod Tape
pub mod Told
