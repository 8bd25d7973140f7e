pub mod Voice
pub mod Turn
pub mod Missed
pub mod Ranges
pub mod Tune
pub mod Takes
pub mod Raises
