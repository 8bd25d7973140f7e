pub mod Decay
pub mod Filter
pub mod PoleBits
