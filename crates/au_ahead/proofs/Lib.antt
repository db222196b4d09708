pub mod StepLemmas
pub mod MoreLemmas
pub mod KeptLemmas
pub mod WalkLemmas
pub mod ReadyLemmas
