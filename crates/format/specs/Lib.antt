pub mod Limits
pub mod Shape
pub mod Event
pub mod Execution
pub mod Field
pub mod Layout
