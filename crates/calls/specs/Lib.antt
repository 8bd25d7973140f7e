pub mod Calls
pub mod Asks
pub mod WholeWrite
