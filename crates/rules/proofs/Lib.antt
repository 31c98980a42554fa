pub mod RulesLaws
pub mod StirredLaws
