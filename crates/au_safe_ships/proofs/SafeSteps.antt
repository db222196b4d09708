-- What is named here of `au_safe_steps`, for the crates above.
pub use Rattle.au_running_judgements.proofs.NamedLemmas
