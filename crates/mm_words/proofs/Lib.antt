mod Debts
mod Lodging
mod Runs
mod Values
mod Walks
pub mod Writes
