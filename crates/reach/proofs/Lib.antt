pub mod ReachableLaws
pub mod TallyLaws
pub mod TalliedLaws
pub mod Promises
