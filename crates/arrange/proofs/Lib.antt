pub mod ArrangedLaws
pub mod ListingLaws
