pub mod Attempts
pub mod Repeats
