pub mod Line
pub mod Row
pub mod Inner
