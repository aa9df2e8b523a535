pub mod Captures
pub mod Reading
pub mod Elements
pub mod Pattern
pub mod Items
pub mod Ranges
pub mod Inner
pub mod Computed
