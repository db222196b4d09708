use Rattle.std.proofs.Common.{refl}
use Rattle.au_clearing.proofs.CombiningLemmas.{turned_seen}
use Rattle.au_clearing.proofs.combining.turned.Goals as goal

pub returns : goal.returns
returns c = record {
  seen =
      turned_seen c.args.body
      record { named = c.in_ok-named.named; rest = c.turns-rest.result; returns = c.args.body.returns }
      c.new-none.result c.turns-rest.result c.new-none.ensures c.in_ok-named.ensures c.turns-rest.ensures;
  returns = refl;
}
