-- The meaning of a program: what it does for at most so many ticks.
use Rattle.std.specs.Prelude.{ℕ, zero, suc, ◌+◌, ◌-◌, ◌==◌, true, false, List, [], ◌∷◌, length, Option, Some}
use Rattle.std.specs.Prelude.{None, if◌then◌else◌, codes}
use Rattle.au_type_texts.specs.Types.{ClosedType}
use Rattle.au_effects.specs.Values.{made, no_fields, field_then, root}
use Rattle.au_effects.specs.Worlds.{bears, nothing}
use Rattle.au_meaning.specs.Acts.{in_store, new_names, begins, closing, ends_frame}
use Rattle.au_meaning.specs.Names.{Scope, with_parameters, names_in_block}
use Rattle.au_meaning.specs.Statements.{Flow, falls, returns, run_block}
use Rattle.au_meaning.specs.Ticks.{Out, Action, gives, aborts, cut, no_rule, pure, stuck, over, where_true}
use Rattle.au_meaning.specs.Ticks.{does, ◌>>=◌, ◌>>◌}
use Rattle.au_meaning.specs.Views.{Field, Function}
use Rattle.au_meaning.specs.Worlds as worlds
use Rattle.au_meaning.specs.Worlds.{Value, World, Ending, Outcome, exit, abort, running}

-- ---- calls

-- the value that a body returns: where it falls through, no rule applies
abbrev pub returned : Flow → Action Value
returned falls = stuck
returned (returns value) = pure value

module _ {I T C : Type 0} where
  -- the parameters of a function are in scope
  abbrev pub scope_of : Function I T C → Scope
  scope_of f = with_parameters f.first f.parameters []

  -- A function is called: its arguments are the first names of a new frame, and its body is run. What this
  -- opens is closed before the names go.
  abbrev pub enters : (I → List Value → Action Value) → ℕ → Option (Function I T C) → List Value
      → Action Value
  enters invoke depth None args = stuck
  enters invoke depth (Some f) args = where_true (length args == length f.parameters) (do
    does (begins (new_names f.first args (names_in_block f.body)))
    value ← closing (run_block f.view invoke depth (f.first + length args) (scope_of f) f.body >>= returned)
    does ends_frame
    pure value)

  -- a call, where calls in calls go at most so deep
  unfoldable pub call_at : (I → Option (Function I T C)) → ℕ → I → List Value → Action Value
  call_at functions zero one args = over
  call_at functions (suc depth) one args = enters (call_at functions depth) depth (functions one) args

-- ---- a run

-- the exit that a value is: a success is of case 0 and a failure of case 1, both without fields
abbrev pub exit_in : Value → Ending
exit_in (made tag birth no_fields) =
    if tag == 0 then exit true else if tag == 1 then exit false else worlds.stuck
exit_in (made tag birth (field_then value rest)) = worlds.stuck
exit_in other = worlds.stuck

-- what is seen of a run that had so many ticks
abbrev pub seen : ℕ → Out Value → Outcome
seen ticks (gives value world left) = record { world = world; made = ticks - left; ending = exit_in value }
seen ticks (aborts fault world left) = record { world = world; made = ticks - left; ending = abort fault }
seen ticks (cut world) = record { world = world; made = ticks; ending = running }
seen ticks (no_rule world left) = record { world = world; made = ticks - left; ending = worlds.stuck }

-- a world in which nothing has happened, before this input
abbrev pub first_world : List ℕ → World
first_world input = record {
  store = record { frames = []; births = []; borrows = 0; keeps = true; deeds = [] };
  borrows = [];
  output = [];
  left = input;
}

-- the root is born, as the first birth
abbrev pub root_born : ClosedType → World → World
root_born of world = in_store (bears of (codes "Austral.Pervasive") nothing world.store) world

-- An entry begins without arguments, or with the root, which is born before.
abbrev pub begun : List Field → (List Value → Action Value) → Action Value
begun [] call = call []
begun (p ∷ []) call = does (root_born p.of) >> call (root 0 ∷ [])
begun (p ∷ q ∷ more) call = stuck

-- the parameters of a function, if it is there
abbrev pub parameters_of : {I T C : Type 0} → Option (Function I T C) → List Field
parameters_of None = []
parameters_of (Some f) = f.parameters

-- What a program does from an entry on an input, for at most so many ticks. Each call and each turn of a loop
-- makes a tick, so calls go no deeper than there are ticks.
abbrev pub mean : {I T C : Type 0} → (I → Option (Function I T C)) → I → List ℕ → ℕ → Outcome
mean functions entry input ticks =
    seen ticks (begun (parameters_of (functions entry)) (call_at functions (suc ticks) entry)
    (first_world input) ticks)
