pub mod Tuned
