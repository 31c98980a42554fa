pub mod JudgedLine
pub mod Limits
pub mod Demands
