pub mod ForcedLaws
pub mod PressLaws
