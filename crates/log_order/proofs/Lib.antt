pub mod ListLaws
pub mod MeetsLaws
pub mod MasksLaws
pub mod MeansLaws
pub mod TrialLaws
pub mod Promises
