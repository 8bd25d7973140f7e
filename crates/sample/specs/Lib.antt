pub mod Sample
pub mod Lasts
