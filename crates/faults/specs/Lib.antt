pub mod Faults
pub mod Number
