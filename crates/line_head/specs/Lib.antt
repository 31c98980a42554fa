pub mod Head
pub mod Within
