pub mod Bars
pub mod Kept
pub mod Keeps
pub mod Promises
pub mod steps
