pub mod Replace
pub mod Stops
pub mod Inner
pub mod Computed
