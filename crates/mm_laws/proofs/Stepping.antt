pub mod Runs
pub mod Unchosen
