pub mod Tells
pub mod Mask
pub mod Count
pub mod Members
