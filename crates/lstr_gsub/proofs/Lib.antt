pub mod Runs
pub mod Endings
pub mod Room
pub mod Versions
pub mod Writings
pub mod Quiet
pub mod Promises
pub mod Rounds
