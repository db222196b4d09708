pub mod Sound
pub mod Printing
pub mod Boxing
pub mod Buffering
pub mod Granting
pub mod Operating
