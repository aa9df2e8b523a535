pub mod Replacement
pub mod Inner
pub mod Limit
pub mod Counts
pub mod Computed
