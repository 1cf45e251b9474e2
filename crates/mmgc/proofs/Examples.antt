-- Worked values of the definitions that say what the program reads, says and generates.
pub mod Draws
pub mod Texts
pub mod Words
