pub mod Patterns
pub mod Endings
