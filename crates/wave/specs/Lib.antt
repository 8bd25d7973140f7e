pub mod Wave
pub mod Parse
