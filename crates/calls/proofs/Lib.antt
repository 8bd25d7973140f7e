pub mod Performs
pub mod Runs
pub mod Valid
pub mod WholeWrite
