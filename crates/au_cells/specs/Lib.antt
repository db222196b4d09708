pub mod Piles
pub mod Cells
