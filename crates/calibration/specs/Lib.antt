pub mod Pairs
pub mod Conditions
pub mod Outcomes
pub mod Calibration
pub mod Annual
pub mod LentList
pub mod InCode
