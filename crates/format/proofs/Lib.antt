pub mod EventLaws
pub mod LayoutLaws
pub mod ShapeLaws
pub mod ExecutionLaws
