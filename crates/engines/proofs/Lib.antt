pub mod Heard
pub mod Lent
pub mod Wrong
