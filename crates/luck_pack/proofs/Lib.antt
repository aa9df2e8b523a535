pub mod Packs
pub mod PackOptions
