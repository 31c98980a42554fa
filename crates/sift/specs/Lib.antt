pub mod Clean
pub mod Sieve
pub mod steps
pub mod Cover
