pub mod Bytes
pub mod Pieces
pub mod Passing
pub mod Cut
pub mod Reading
pub mod Faults
