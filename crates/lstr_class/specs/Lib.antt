pub mod Class
pub mod Subject
pub mod Inner
pub mod Computed
pub mod Examples
