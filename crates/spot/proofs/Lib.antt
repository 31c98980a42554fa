pub mod TakenLaws
pub mod BetweenLaws
pub mod TallyLaws
pub mod TabledLaws
