pub mod Checked
pub mod Word
pub mod Demands
pub mod Examples
