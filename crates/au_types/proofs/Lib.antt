pub mod AbsentLemmas
pub mod DeclaredLemmas
pub mod TableLemmas
pub mod TypeLemmas
pub mod SameLemmas
pub mod RegionLemmas
pub mod MeantLemmas
pub mod MovedLemmas
