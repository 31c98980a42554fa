pub mod Parse
pub mod Promise
pub mod Described
pub mod Framed
pub mod WellSheet
pub mod Refusal
pub mod Examples
pub mod Raised
