pub mod BarsLaws
pub mod ExplainedLaws
pub mod WordLaws
pub mod Demands
pub mod Examples
