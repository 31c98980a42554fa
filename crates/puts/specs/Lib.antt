pub mod Text
pub mod Decimal
pub mod Numbers
pub mod Put
