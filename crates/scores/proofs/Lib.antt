pub mod Commands
pub mod Loud
pub mod Making
pub mod Playing
pub mod Judged
pub mod Whole
