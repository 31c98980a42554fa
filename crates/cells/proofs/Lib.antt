pub mod WalkLaws
pub mod CellsLaws
pub mod FirstLaws
