pub mod Copied
pub mod Placed
pub mod Settling
pub mod Importing
pub mod Corollaries
pub mod Files
