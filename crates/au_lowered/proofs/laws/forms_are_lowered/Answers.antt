use Rattle.std.proofs.Common.{refl}
use Rattle.au_effects.specs.Calls.{shipped}
use Rattle.au_ints.specs.Operations.{converted, trapped, wrapped}
use Rattle.au_ints.specs.Orders.{truth_of}
use Rattle.au_low.specs.Instructions.{act}
use Rattle.au_low.specs.Runs.{exec}
use Rattle.au_meaning.specs.Meanings.{call_at}
use Rattle.au_meaning.specs.Statements.{while_turns, for_turns}
use Rattle.au_meaning.specs.Ticks.{follows, ticked}
use Rattle.au_lowered.proofs.laws.forms_are_lowered.Goals as goal

pub returns : goal.returns
unfolding act call_at converted exec follows for_turns shipped ticked trapped truth_of while_turns wrapped
returns c = record {
  chain = record {
    lowers = record {
      is = refl;
      agrees = record { ending = refl; output = refl; left = refl; events = refl };
    };
    steps = record { least = refl; most = refl };
  };
  returning = record {
    lowers = record {
      is = refl;
      agrees = record { ending = refl; output = refl; left = refl; events = refl };
    };
    steps = record { least = refl; most = refl };
  };
  slots = record {
    lowers = record {
      is = refl;
      agrees = record { ending = refl; output = refl; left = refl; events = refl };
    };
    steps = record { least = refl; most = refl };
  };
  orders = record {
    lowers = record {
      is = refl;
      agrees = record { ending = refl; output = refl; left = refl; events = refl };
    };
    steps = record { least = refl; most = refl };
  };
  in_rounds = record {
    lowers = record {
      is = refl;
      agrees = record { ending = refl; output = refl; left = refl; events = refl };
    };
    steps = record { least = refl; most = refl };
  };
  instructions = refl;
  steps = refl;
  in_boxing = record {
    is = refl;
    agrees = record { ending = refl; output = refl; left = refl; events = refl };
    steps = record { least = refl; most = refl };
  };
  in_filling = record {
    is = refl;
    agrees = record { ending = refl; output = refl; left = refl; events = refl };
    steps = record { least = refl; most = refl };
  };
  pieces = record {
    of_unit = refl;
    of_truth = refl;
    of_number = refl;
    of_text = refl;
    ordered = refl;
    declared = refl;
    labelled = refl;
    again = refl;
  };
}
