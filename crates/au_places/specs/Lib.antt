pub mod Places
pub mod Memories
pub mod Laws
