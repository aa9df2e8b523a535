pub mod Format
pub mod Date
pub mod Inner
pub mod Computed
