pub mod Entries
pub mod Promises
