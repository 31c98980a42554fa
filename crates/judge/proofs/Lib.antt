pub mod ArrangeLaws
pub mod JudgeLaws
pub mod WeighLaws
