pub mod WholeLaws
pub mod LendingLaws
pub mod WordLaws
pub mod WaysLaws
pub mod Demands
pub mod Examples
