use Rattle.std.proofs.Common.{refl}
use Rattle.au_clearing.proofs.CombiningLemmas.{forgotten_seen}
use Rattle.au_clearing.proofs.deals.forget.Goals as goal

pub returns : goal.returns
returns c = record {
  seen =
      forgotten_seen c.args.deals.now
      record { named = c.remove.new.self; rest = c.args.deals.now.rest; returns = c.args.deals.now.returns }
      c.args.name.now c.remove.ensures refl;
  returns = refl;
}
