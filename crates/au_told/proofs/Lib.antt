pub mod ToldLemmas
mod PlainLemmas
mod FileLemmas
mod TokenLemmas
mod DraftLemmas
mod ModuleLemmas
mod CodeLemmas
