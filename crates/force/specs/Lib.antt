pub mod Forced
pub mod steps
