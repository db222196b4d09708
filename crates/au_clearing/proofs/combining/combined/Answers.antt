use Rattle.au_clearing.proofs.CombiningLemmas.{combined_seen}
use Rattle.au_clearing.proofs.combining.combined.Goals as goal

pub returns : goal.returns
returns c = record {
  seen =
      combined_seen c.args.way c.args.one c.args.other
      record { named = c.in_ok-named.named; rest = c.by-rest.result; returns = c.sum-returns.result }
      c.in_ok-base.base c.in_ok-base.ensures c.in_ok-named.ensures c.by-rest.ensures;
  returns = c.sum-returns.ensures;
}
