use Rattle.std.proofs.Common.{inl}
use Rattle.au_types.proofs.RegionLemmas.{known_first, known_before, known_after}
use Rattle.au_types.proofs.region_laws.what_is_entered_is_known.Goals as goal

pub returns : goal.returns
returns c = record {
  first = λ name. (known_first name, λ e. inl e);
  entered = λ scope name other. (known_before scope name other, known_after scope name other);
}
