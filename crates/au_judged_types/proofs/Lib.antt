pub mod SenseLemmas
pub mod UnfitLemmas
pub mod AgreementLemmas
pub mod JudgedLemmas
pub mod FittingLemmas
pub mod BoundLemmas
pub mod MeaningLemmas
