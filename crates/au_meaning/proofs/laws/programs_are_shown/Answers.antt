use Rattle.std.proofs.Common.{refl}
use Rattle.au_effects.specs.Calls.{shipped}
use Rattle.au_ints.specs.Operations.{converted, trapped, wrapped}
use Rattle.au_ints.specs.Orders.{truth_of}
use Rattle.au_meaning.specs.Meanings.{call_at}
use Rattle.au_meaning.specs.Statements.{while_turns, for_turns}
use Rattle.au_meaning.specs.Ticks.{follows, ticked}
use Rattle.au_meaning.proofs.laws.programs_are_shown.Goals as goal

pub returns : goal.returns
unfolding call_at converted follows for_turns shipped ticked trapped truth_of while_turns wrapped
returns c = record {
  hello_exits = refl;
  overflows = refl;
  counts = refl;
  turn = refl;
  branch = refl;
  skip_right = refl;
  part = refl;
  taken_once = refl;
  taken_twice = refl;
  arm = refl;
  named = refl;
  types = refl;
  aborts = refl;
  ships = refl;
  root = refl;
  enough = refl;
  fewer = refl;
  one_tick = refl;
  no_ticks = refl;
}
