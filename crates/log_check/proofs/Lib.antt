pub mod CheckedLaws
pub mod WordLaws
pub mod Demands
pub mod Examples
