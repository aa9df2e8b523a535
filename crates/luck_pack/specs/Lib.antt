pub mod Pack
pub mod Inner
pub mod Computed
pub mod Examples
