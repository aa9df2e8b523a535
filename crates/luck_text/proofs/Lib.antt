pub mod Cases
pub mod Walk
pub mod Bytes
pub mod Among
pub mod Others
pub mod Keeps
