pub mod WordLaws
pub mod ReadLaws
pub mod Examples
pub mod Demands
pub mod RulesLaws
