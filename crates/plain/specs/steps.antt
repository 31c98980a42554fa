-- Contracts of private steps: no part of what the crate promises.
pub mod Growing
