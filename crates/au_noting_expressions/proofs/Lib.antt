pub mod ClauseLemmas
mod LabelLemmas
mod MadeLemmas
mod ParameterLemmas
mod StopLemmas
pub mod Heights
pub mod Steps
pub mod FormLemmas
pub mod ArgumentLemmas
pub mod PassLemmas
pub mod RuleLemmas
