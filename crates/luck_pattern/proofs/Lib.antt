pub mod Flags
pub mod Places
pub mod Elements
pub mod Ranges
pub mod Exactly
pub mod Patterns
pub mod ItemRanges
pub mod Promises
