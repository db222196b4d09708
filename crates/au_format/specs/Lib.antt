pub mod Kinds
pub mod Marks
pub mod Standings
pub mod Gaps
pub mod Fronts
pub mod Layout
pub mod Places
pub mod Keeping
