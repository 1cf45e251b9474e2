pub mod Release
pub mod Sweep
pub mod Told
