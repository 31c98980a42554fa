pub mod RowDataLaws
