pub mod Listings
pub mod Streams
pub mod Buffers
pub mod Cuts
pub mod Runs
pub mod Ends
pub mod Promises
