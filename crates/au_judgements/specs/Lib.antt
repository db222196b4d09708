pub mod Refusing
pub mod Said
pub mod Steps
pub mod Leaving
