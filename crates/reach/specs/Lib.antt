pub mod Reachable
pub mod Counting
pub mod Promises
