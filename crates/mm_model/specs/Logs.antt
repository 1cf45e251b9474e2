pub mod Course
pub mod Faithful
pub mod Journal
pub mod Log
pub mod Spelling
pub mod Throughout
pub mod Trace
pub mod Turns
