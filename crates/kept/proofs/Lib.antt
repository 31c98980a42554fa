pub mod KeptLaws
pub mod NumbersLaws
pub mod BarsLaws
pub mod IdleLaws
pub mod ThinLaws
pub mod KeepsLaws
pub mod Promises
