pub mod NamedLemmas
pub mod ValueLemmas
pub mod LeadLemmas
pub mod GraphLemmas
pub mod WellMadeLemmas
pub mod TextLemmas
pub mod DeclarerLemmas
