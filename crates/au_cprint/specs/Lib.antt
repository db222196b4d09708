pub mod Words
pub mod Instructions
pub mod Programs
pub mod Told
pub mod Examples
