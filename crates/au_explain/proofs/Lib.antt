pub use Rattle.au_noting_programs.proofs.AcceptedLemmas
pub mod DeclarationLemmas
pub mod TurnLemmas
pub mod PutLemmas
pub mod StatementLemmas
