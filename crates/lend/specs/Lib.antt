pub mod Lending
pub mod Word
pub mod Demands
pub mod Examples
