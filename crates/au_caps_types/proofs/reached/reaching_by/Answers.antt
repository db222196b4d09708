use Rattle.std.proofs.Common.{refl}
use Rattle.au_caps_types.proofs.reached.reaching_by.Goals as goal

pub returns : goal.returns
returns c = record {
  table = c.in_ok-table.ensures;
  heads = refl;
  own = c.in_ok-own.ensures;
  reached = c.in_ok-reached.ensures;
}
