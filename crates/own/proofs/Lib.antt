pub mod OwnLaws
pub mod LoneLaws
