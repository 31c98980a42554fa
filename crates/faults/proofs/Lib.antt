pub mod FaultsLaws
pub mod NumberLaws
pub mod PlainLaws
