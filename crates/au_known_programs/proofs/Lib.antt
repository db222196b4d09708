pub mod BodyLemmas
pub mod OutsideLemmas
