pub mod Written
pub mod Word
pub mod Demands
pub mod Examples
