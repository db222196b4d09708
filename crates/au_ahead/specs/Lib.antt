pub mod Ahead
pub mod Ready
pub mod Laws
