use Rattle.au_lowered.proofs.TreeLemmas.{fits_expression, fits_block}
use Rattle.au_lowered.proofs.laws.code_fits.Goals as goal

pub returns : goal.returns
returns g c = record {
  expressions = λ see scope e. fits_expression see scope e;
  blocks = λ see around slot scope b. fits_block see around slot scope b;
}
