-- What an action comes to.
use Rattle.std.specs.Prelude.{ℕ, List}
use Rattle.au_effects.specs.Values.{Value}
use Rattle.au_effects.specs.Worlds.{World}

-- why a program aborts; a call of `abort` has its text
pub data Fault (T : Type 0) : Type 0 where
  arithmetic : Fault T
  called : T → Fault T
  not_empty : Fault T
  empty : Fault T
  out_of_range : Fault T

-- what an operation on values comes to: a value, an abort, or nothing where no rule applies
pub data Result (T : Type 0) : Type 0 where
  value : Value T → Result T
  fault : Fault T → Result T
  no_rule : Result T

-- What a shipped call comes to: it gives a value, or writes bytes and gives Unit, or waits for the next byte
-- of the input, or aborts, or no rule applies.
pub data Answer (T B : Type 0) : Type 0 where
  gives : Value T → World T B → Answer T B
  writes : List ℕ → World T B → Answer T B
  waits : Answer T B
  aborts : Fault T → World T B → Answer T B
  none : Answer T B
