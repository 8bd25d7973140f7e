pub mod Same
pub mod Frame
pub mod Stretch
pub mod Theorem
pub mod Corollaries
pub mod Example
pub mod Needed
