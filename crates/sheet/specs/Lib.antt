pub mod Handed
pub mod Filled
pub mod steps
