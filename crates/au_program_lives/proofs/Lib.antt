pub mod PutLemmas
pub mod StatementLemmas
pub mod LengthLemmas
pub mod ToldLemmas
pub mod VariableLemmas
pub mod GoodLemmas
pub mod AcceptedLemmas
