pub mod Closure
pub mod Triples
pub mod steps
