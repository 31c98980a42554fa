pub mod Table
pub mod Encode
pub mod Lent
pub mod Lend
pub mod Index
pub mod Place
pub mod Copy
