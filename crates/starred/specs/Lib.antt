pub mod Cases
pub mod Starred
pub mod Others
pub mod Requests
pub mod Promised
