mod EndingLemmas
mod PatternLemmas
mod RunLemmas
