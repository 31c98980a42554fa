pub mod BarsLaws
pub mod UntriedLaws
pub mod PlacingLaws
