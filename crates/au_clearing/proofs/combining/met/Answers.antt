use Rattle.std.proofs.Common.{refl}
use Rattle.au_clearing.proofs.CombiningLemmas.{met_seen}
use Rattle.au_clearing.proofs.combining.met.Goals as goal

pub returns : goal.returns
returns c = record {
  seen =
      met_seen c.args.in_loop c.args.other.returns c.args.touches c.args.other
      record { named = c.in_ok-named.named; rest = c.args.other.rest; returns = c.args.other.returns }
      c.in_ok-named.ensures refl;
  returns = refl;
}
