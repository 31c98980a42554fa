pub mod Listed
pub mod Trial
pub mod Means
pub mod Promises
pub mod steps
