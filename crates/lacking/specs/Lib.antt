pub mod Lacking
pub mod Bytes
