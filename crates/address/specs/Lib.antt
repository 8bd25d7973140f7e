pub mod Address
pub mod Event
pub mod LoopEvent
