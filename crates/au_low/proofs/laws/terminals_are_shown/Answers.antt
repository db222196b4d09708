use Rattle.std.proofs.Common.{refl}
use Rattle.au_effects.specs.Calls.{shipped}
use Rattle.au_low.specs.Instructions.{act}
use Rattle.au_low.specs.Runs.{exec}
use Rattle.au_low.proofs.laws.terminals_are_shown.Goals as goal

pub returns : goal.returns
unfolding act exec shipped
returns c = record {
  root_born = refl;
  root_there = refl;
  surrender = refl;
  acquire = refl;
  acquire_tells = refl;
  read_takes = refl;
  read_none = refl;
  write = refl;
  release = refl;
}
