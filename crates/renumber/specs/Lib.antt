pub mod Demand
pub mod Score
