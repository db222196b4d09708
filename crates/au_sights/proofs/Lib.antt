pub use Rattle.au_typing.proofs.NumberLemmas
mod CopyLemmas
pub mod StandingLemmas
pub mod FollowedLemmas
pub mod ArgumentLemmas
pub mod MakerLemmas
