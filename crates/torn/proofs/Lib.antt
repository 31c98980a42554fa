pub mod TwoLaws
pub mod TornLaws
pub mod NoticedLaws
pub mod DoubledLaws
