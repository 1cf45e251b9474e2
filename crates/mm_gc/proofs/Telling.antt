pub mod Heard
pub mod Lasting
pub mod Words
