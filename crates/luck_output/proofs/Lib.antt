pub mod Characters
pub mod Outputs
