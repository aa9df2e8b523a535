pub mod Outputs
pub mod Decimals
pub mod Replaced
