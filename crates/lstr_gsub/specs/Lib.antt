pub mod Gsub
pub mod Inner
pub mod Computed
