pub mod Registers
pub mod Import
pub mod Steps
