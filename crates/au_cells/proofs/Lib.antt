pub mod PileLemmas
pub mod CellLemmas
pub mod FormLemmas
pub mod NumberLemmas
pub mod PartLemmas
