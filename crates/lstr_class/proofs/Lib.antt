pub mod Classes
pub mod Subjects
