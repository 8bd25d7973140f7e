pub mod Keeping
pub mod Collecting
pub mod Parsing
pub mod NotBroken
