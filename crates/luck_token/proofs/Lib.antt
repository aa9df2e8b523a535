pub mod Texts
pub mod Breaks
pub mod Literals
pub mod Values
pub mod Bounds
pub mod CodePoints
pub mod OtherEscapes
pub mod Promises
