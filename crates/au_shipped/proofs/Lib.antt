pub mod CallLemmas
pub mod Choosing
pub mod WholeTrees
