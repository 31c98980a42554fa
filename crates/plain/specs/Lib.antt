pub mod Fields
pub mod steps
