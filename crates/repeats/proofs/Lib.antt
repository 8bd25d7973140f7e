pub mod Command
pub mod Full
