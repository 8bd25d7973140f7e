pub mod Told
pub mod Headed
pub mod Reached
pub mod Row
pub mod Named
