pub mod CallLemmas
pub mod Congruences
pub mod DecimalLemmas
pub mod Quotients
pub mod Traps
pub mod Turns
