pub mod Holding
pub mod Laws
pub mod Parting
pub mod Ending
pub mod Records
pub mod Seeing
pub mod Putting
pub mod Buffers
