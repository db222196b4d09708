use Rattle.au_matching.proofs.LawLemmas.{well_formed_stands}
use Rattle.au_matching.proofs.universe_laws.what_is_well_formed_stands.Goals as goal

pub returns : goal.returns
returns c rows params t formed = well_formed_stands rows params t formed
