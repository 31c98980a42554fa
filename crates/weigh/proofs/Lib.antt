pub mod WeighedLaws
