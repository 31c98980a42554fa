-- Contracts of private functions: no part of what the crate promises.
pub mod Ahead
pub mod Near
pub mod Once
