pub mod BranchLemmas
pub mod LendingLemmas
