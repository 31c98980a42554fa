pub mod PlainLaws
pub mod GrowingLaws
pub mod LinedLaws
