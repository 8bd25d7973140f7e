pub mod Score
pub mod Sound
pub mod Playing
