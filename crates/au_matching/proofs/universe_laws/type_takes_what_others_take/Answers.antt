use Rattle.au_matching.proofs.LawLemmas.{fits_kind, fits_type_free, fits_type_linear}
use Rattle.au_matching.proofs.universe_laws.type_takes_what_others_take.Goals as goal

pub returns : goal.returns
returns c = record {
  free = λ rows params one fit. fits_type_free rows params one fit;
  linear = λ rows params one fit. fits_type_linear rows params one fit;
  kind = λ rows params wanted one fit. fits_kind rows params wanted one fit;
}
