use Rattle.std.proofs.Common.{refl}
use Rattle.au_effects.specs.Calls.{shipped}
use Rattle.au_low.specs.Instructions.{act}
use Rattle.au_low.specs.Runs.{exec}
use Rattle.au_meaning.specs.Meanings.{call_at}
use Rattle.au_meaning.specs.Ticks.{follows, ticked}
use Rattle.au_lowered.proofs.laws.references_are_lowered.Goals as goal

pub returns : goal.returns
unfolding act call_at exec follows shipped ticked
returns c = record {
  in_lending = record {
    lowers = record {
      is = refl;
      agrees = record { ending = refl; output = refl; left = refl; events = refl };
    };
    steps = record { least = refl; most = refl };
  };
}
