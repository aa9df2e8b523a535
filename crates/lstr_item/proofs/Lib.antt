pub mod Sets
pub mod Singles
pub mod Captures
pub mod Items
pub mod Reading
pub mod Turns
pub mod FirstTests
