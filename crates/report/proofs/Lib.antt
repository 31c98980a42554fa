pub mod LineLaws
pub mod LinedLaws
pub mod Demands
pub mod Examples
