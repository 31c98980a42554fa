pub mod Own
pub mod Lone
pub mod steps
