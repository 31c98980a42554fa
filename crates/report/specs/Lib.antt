pub mod Line
pub mod Lined
pub mod Examples
pub mod Demands
