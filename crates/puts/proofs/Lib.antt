pub mod NumberLaws
pub mod DecimalLaws
pub mod NumbersLaws
pub mod PutLaws
