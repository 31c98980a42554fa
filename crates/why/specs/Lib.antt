pub mod Bars
pub mod Explained
pub mod Word
pub mod Demands
pub mod steps
pub mod Examples
