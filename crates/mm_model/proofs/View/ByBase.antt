pub mod Bases
pub mod ChangedEntries
pub mod Changes
pub mod CommonBases
pub mod Entries
pub mod MappedEntries
pub mod ReplacedEntries
pub mod Seen
