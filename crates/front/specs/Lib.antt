pub mod Tabled
pub mod Steps
pub mod Examples
