pub mod Checks
pub mod StringLiteral
pub mod Inner
pub mod Computed
pub mod Examples
