pub mod Parts
pub mod Bytes
pub mod Endian
