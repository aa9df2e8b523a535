pub mod Lines
pub mod Stream
pub mod Inner
pub mod Examples
