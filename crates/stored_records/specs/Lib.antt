pub mod Numbers
pub mod Output
pub mod Records
pub mod Tally
