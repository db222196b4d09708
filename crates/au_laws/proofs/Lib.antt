pub mod ClauseLemmas
pub mod PassLemmas
pub mod CallLemmas
pub mod NodeLemmas
pub mod WholeCallLemmas
pub mod CallTellLemmas
pub mod TellLemmas
pub mod StatementClauseLemmas
pub mod OwnLemmas
pub mod BlockLemmas
pub mod BodyLemmas
pub mod ProgramLemmas
pub mod OneLemmas
mod RuleLemmas
pub mod DeclaredLemmas
pub mod DerivedLemmas
pub mod FunctionLemmas
