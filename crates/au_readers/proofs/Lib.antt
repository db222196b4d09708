pub mod SparingLemmas
pub mod SubtreeLemmas
pub mod DescentLemmas
pub mod SeatLemmas
pub mod HeldLemmas
pub mod ExclusiveLemmas
