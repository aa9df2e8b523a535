pub mod Answer
pub mod Computed
pub mod Examples
