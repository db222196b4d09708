pub mod Wrote
pub mod Parts
pub mod Views
pub mod Innermost
