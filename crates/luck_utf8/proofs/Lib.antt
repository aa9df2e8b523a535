pub mod Sequences
pub mod Width
pub mod Parts
pub mod CodePoints
pub mod Reading
pub mod Refused
pub mod ReadBack
pub mod Promises
