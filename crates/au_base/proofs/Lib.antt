pub mod BoolLemmas
pub mod ListLemmas
pub mod MeasureLemmas
pub mod NumberLemmas
pub mod OptionLemmas
pub mod OutsideLemmas
pub mod PlaceLemmas
pub mod TextLemmas
