pub mod BoolLaws
pub mod ListLaws
pub mod LoopLaws
pub mod FindLaws
pub mod ThoseLaws
