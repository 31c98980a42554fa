pub mod SlicedLaws
