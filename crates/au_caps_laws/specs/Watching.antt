-- Runs in which each call is looked at by a monitor of pre- and postconditions, whatever it does: calls of
-- functions and methods, those that make a value of a case, and shipped ones; and what functions return.
use Rattle.std.specs.Prelude.{ℕ, zero, suc, Bool, List, Option, None, Some, option_map}
use Rattle.au_syntax.specs.Plain.{Bytes}
use Rattle.au_meaning.specs.Expressions.{acts}
use Rattle.au_meaning.specs.Meanings.{begun, enters, first_world, parameters_of, seen}
use Rattle.au_meaning.specs.Ticks.{Action, over, pure, stuck, where_true, ◌>>=◌}
use Rattle.au_meaning.specs.Views.{Act, Callee, Function, View, invokes}
use Rattle.au_meaning.specs.Worlds.{Outcome, Value, World}

-- ---- views in which other things are called

-- a view in which names call something else, and all else is seen as before
abbrev pub with_callees : {I J T C : Type 0} → View I T C → (T → C → Bytes → Option (Callee J))
    → View J T C
with_callees see callee = record {
  type_of = see.type_of;
  is_free = see.is_free;
  callee = callee;
  constant = see.constant;
  tag = see.tag;
  fields = see.fields;
  is_linear = see.is_linear;
}

-- What a call does is called, with the same arguments: so each call can be looked at before it is made.
abbrev pub act_called : {I : Type 0} → Callee I → Callee (Act I)
act_called one = record { parameters = one.parameters; act = invokes one.act }

-- a view in which so does each call, and a function with this view
abbrev pub acting : {I T C : Type 0} → View I T C → View (Act I) T C
acting see = with_callees see (λ note c name. option_map act_called (see.callee note c name))

abbrev pub acting_function : {I T C : Type 0} → Function I T C → Function (Act I) T C
acting_function f = record { view = acting f.view; parameters = f.parameters; first = f.first; body = f.body }

-- ---- runs under a watch

-- A watch of calls: a test of what is passed (a precondition), by the function that makes the call, unless
-- the run begins with it, by what the call does, the arguments and the world in which it is made; and a test
-- of what functions return (a postcondition), by the function, the value and the world then.
pub record Watch (I : Type 0) : Type 0 where
  pub passed : Option I → Act I → List Value → World → Bool
  pub returned : I → Value → World → Bool

-- an action, where the world passes a test: else no rule applies
abbrev pub tested : {A : Type 0} → (World → Bool) → Action A → Action A
tested test m = λ world ticks. where_true (test world) m world ticks

-- what a call does that a function makes, where what is passed to it passes
abbrev pub looked_at : {I T C : Type 0} → Watch I → View I T C → I → (I → List Value → Action Value)
    → Act I → List Value → Action Value
looked_at watch see caller invoke act args =
    tested (watch.passed (Some caller) act args) (acts see invoke act args)

-- a function is called, and each call that it makes is looked at
abbrev pub enters_looking : {I T C : Type 0} → Watch I → I → (I → List Value → Action Value) → ℕ
    → Option (Function I T C) → List Value → Action Value
enters_looking watch one invoke depth None args = stuck
enters_looking watch one invoke depth (Some f) args =
    enters (looked_at watch f.view one invoke) depth (Some (acting_function f)) args

-- A call under a watch: as a call is, but that no rule applies where what it passes on or returns doesn't
-- pass, or what the calls in it do. Calls in calls go at most so deep.
unfoldable pub watched_at : {I T C : Type 0} → Watch I → (I → Option (Function I T C)) → ℕ → I
    → List Value → Action Value
watched_at watch functions zero one args = over
watched_at watch functions (suc depth) one args =
    enters_looking watch one (watched_at watch functions depth) depth (functions one) args
    >>= (λ value. tested (watch.returned one value) (pure value))

-- What a program does under a watch, from an entry on an input, for at most so many ticks: it gets stuck at
-- the first call that doesn't pass.
abbrev pub watched_mean : {I T C : Type 0} → Watch I → (I → Option (Function I T C)) → I → List ℕ → ℕ
    → Outcome
watched_mean watch functions entry input ticks =
    seen ticks (begun (parameters_of (functions entry))
    (λ args. tested (watch.passed None (invokes entry) args)
    (watched_at watch functions (suc ticks) entry args))
    (first_world input) ticks)
