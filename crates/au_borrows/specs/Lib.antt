pub mod Told
pub mod Orders
pub mod Invariants
pub mod Laws
