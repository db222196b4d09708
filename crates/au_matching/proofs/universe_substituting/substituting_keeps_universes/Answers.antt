use Rattle.au_matching.specs.Substituted.{substituted}
use Rattle.au_matching.specs.Universes.{universe_of}
use Rattle.au_matching.proofs.SubstitutingUniverseLemmas.{free_kept, linear_kept, universe_kept}
use Rattle.au_matching.proofs.universe_substituting.substituting_keeps_universes.Goals as goal

pub returns : goal.returns
returns c = record {
  kept = λ rows params others s t fit stands. universe_kept rows params others s fit t stands;
  free = λ rows params others s t fit stands is. free_kept (universe_of rows params t)
      (universe_of rows others (substituted s t)) (universe_kept rows params others s fit t stands) is;
  linear = λ rows params others s t fit stands is. linear_kept (universe_of rows params t)
      (universe_of rows others (substituted s t)) (universe_kept rows params others s fit t stands) is;
}
