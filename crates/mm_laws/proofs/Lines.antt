pub mod LineWords
pub mod ReadBack
pub mod Spellings
pub mod Words
