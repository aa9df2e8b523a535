pub mod Replacements
pub mod Counts
pub mod Unread
pub mod Promises
