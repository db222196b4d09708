pub mod Decimals
pub mod Laws
pub mod Operations
pub mod Orders
pub mod Ranges
