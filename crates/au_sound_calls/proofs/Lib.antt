pub mod NumberLemmas
pub mod SoundLemmas
pub mod PrintLemmas
pub mod BoxLemmas
pub mod BufferLemmas
pub mod GrantLemmas
pub mod OperationLemmas
