pub mod CountedLaws
pub mod WrittenLaws
pub mod Demands
pub mod Examples
