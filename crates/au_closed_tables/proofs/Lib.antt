pub mod CloseLemmas
