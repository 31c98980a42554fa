pub mod Content
pub mod steps
