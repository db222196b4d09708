pub mod ListLemmas
pub mod PutLemmas
pub mod SearchLemmas
pub mod TurnLemmas
