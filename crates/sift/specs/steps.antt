-- Contracts of private functions: no part of what the crate promises.
pub mod Noted
pub mod Alikes
pub mod Near
pub mod Passed
