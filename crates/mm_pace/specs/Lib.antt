pub mod Work
pub mod Recent
pub mod Rules
pub mod Paced
