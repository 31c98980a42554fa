pub mod ContentLaws
pub mod WidthsLaws
