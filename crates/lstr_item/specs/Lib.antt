pub mod Errors
pub mod Single
pub mod Match
pub mod Inner
pub mod Ahead
pub mod Computed
