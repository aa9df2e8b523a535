pub mod Bytes
pub mod Walk
pub mod Scan
pub mod Computed
