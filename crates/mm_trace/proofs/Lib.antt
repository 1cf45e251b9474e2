pub mod Decimals
pub mod Forms
pub mod Fronts
pub mod Newlines
pub mod Numbers
pub mod Sentences
pub mod WordEnds
pub mod Words
