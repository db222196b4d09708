pub mod KnownLemmas
pub mod CallLemmas
pub mod NotedLemmas
pub mod ScopeLemmas
