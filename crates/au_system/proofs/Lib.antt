mod BlockLemmas
mod ReadLemmas
