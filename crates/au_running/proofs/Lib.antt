mod MarkLemmas
mod StandingLemmas
mod OnceLemmas
mod NamedLemmas
mod EndLemmas
mod NumberingLemmas
mod RowLemmas
mod FollowedLemmas
mod RunLemmas
mod AlikeLemmas
mod TellLemmas
mod MutedLemmas
mod LineLemmas
mod FollowLemmas
pub mod FrontLemmas
pub mod AnswerLemmas
pub mod ShownLemmas
pub mod BrokenLemmas
mod RenotedLemmas
mod GoodOnceLemmas
mod DerivedLemmas
mod CaseNames
mod RenotedHomes
mod TakenLemmas
mod SharedLemmas
mod OrderLemmas
pub mod ClosedLemmas
pub mod CodeLemmas
mod CodingLemmas
pub mod MeaningLemmas
pub mod GoodLemmas
pub mod AskedLemmas
pub mod ConstantLemmas
pub mod JoinedLemmas
pub mod ClosedPrograms
