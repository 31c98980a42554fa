pub mod Torn
pub mod steps
