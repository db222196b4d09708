pub mod EachLemmas
pub mod NumberLemmas
pub mod SaidLemmas
mod CallLemmas
pub mod KeptLemmas
pub mod InRowLemmas
pub mod ListedLemmas
mod CoveredLemmas
pub mod ListedCountLemmas
pub mod CountLemmas
pub mod SameExpressions
pub mod SameStatements
