-- Actions on a world, which spend ticks.
use Rattle.std.specs.Prelude.{ℕ, zero, suc, Bool, true, false, Option, Some, None}
use Rattle.au_effects.specs.Answers as answer
use Rattle.au_syntax.specs.Plain.{Bytes}
use Rattle.au_meaning.specs.Worlds.{Value, Fault, World}

infixl 10 ◌>>=◌
infixl 10 ◌>>◌
-- What an action comes to: it gives something, or the program aborts, or a tick is wanted and none is left,
-- or no rule applies. With it go the world that it leaves, and how many ticks are left.
pub data Out (A : Type 0) : Type 0 where
  gives : A → World → ℕ → Out A
  aborts : Fault → World → ℕ → Out A
  cut : World → Out A
  no_rule : World → ℕ → Out A

-- an action in a world, with so many ticks left
abbrev pub Action : Type 0 → Type 0
Action A = World → ℕ → Out A

-- something is given and nothing done
abbrev pub pure : {A : Type 0} → A → Action A
pure a world ticks = gives a world ticks

-- no rule applies
abbrev pub stuck : {A : Type 0} → Action A
stuck world ticks = no_rule world ticks

-- the ticks are over
abbrev pub over : {A : Type 0} → Action A
over world ticks = cut world

-- what follows what an action gave
unfoldable pub follows : {A B : Type 0} → Out A → (A → Action B) → Out B
follows (gives a world ticks) go = go a world ticks
follows (aborts fault world ticks) go = aborts fault world ticks
follows (cut world) go = cut world
follows (no_rule world ticks) go = no_rule world ticks

-- one action, and then another
abbrev pub ◌>>=◌ : {A B : Type 0} → Action A → (A → Action B) → Action B
m >>= go = λ world ticks. follows (m world ticks) go

abbrev pub ◌>>◌ : {A B : Type 0} → Action A → Action B → Action B
m >> next = λ world ticks. follows (m world ticks) (λ a. next)

-- a tick is made, and then an action, if a tick is left
unfoldable pub ticked : {A : Type 0} → Action A → World → ℕ → Out A
ticked m world zero = cut world
ticked m world (suc left) = m world left

abbrev pub tick : {A : Type 0} → Action A → Action A
tick m = λ world ticks. ticked m world ticks

-- what needs something: no rule applies where it isn't there
abbrev pub needing : {A B : Type 0} → Option A → (A → Action B) → Action B
needing None go = stuck
needing (Some a) go = go a

-- what needs a fact
abbrev pub where_true : {A : Type 0} → Bool → Action A → Action A
where_true true m = m
where_true false m = stuck

-- one action or another, by a truth value
abbrev pub by_truth : {A : Type 0} → Action A → Action A → Bool → Action A
by_truth one other true = one
by_truth one other false = other

-- what is found in the world: no rule applies where it isn't there
abbrev pub asks : {A : Type 0} → (World → Option A) → Action A
asks find = λ world ticks. needing (find world) pure world ticks

-- the world becomes another
abbrev pub does : (World → World) → Action (Unit {0})
does change = λ world ticks. gives tt (change world) ticks

-- the world becomes another, and something is given; no rule applies where that can't be
abbrev pub found_in : {A : Type 0} → Option (A × World) → Action A
found_in None = stuck
found_in (Some pair) = λ world ticks. gives pair.0 pair.1 ticks

abbrev pub takes : {A : Type 0} → (World → Option (A × World)) → Action A
takes change = λ world ticks. found_in (change world) world ticks

-- what an operation on values comes to
abbrev pub comes : answer.Result Bytes → Action Value
comes (answer.value value) = pure value
comes (answer.fault fault) = λ world ticks. aborts fault world ticks
comes answer.no_rule = stuck
