-- The variables of a body that have good lives, and what lies ahead of all its names then.
use Rattle.std.specs.Prelude.{◌≡◌, ℕ, ◌+◌, Bool, true, false, [], length, Some, None}
use Rattle.au_lives.specs.declared.lives.Sort.{Sort}
use Rattle.au_lives.specs.declared.lives.Sort.TheVariants as sort
use Rattle.au_lives.specs.Lives.{GoodLife, is_free}
use Rattle.au_memory.specs.Forests.{empty, ready}
use Rattle.au_meaning.specs.Meanings.{scope_of}
use Rattle.au_meaning.specs.Names.{Scope, Variable, variable_of}
use Rattle.au_meaning.specs.Views.{Function, View}
use Rattle.au_syntax.specs.Expressions.{Expression}
use Rattle.au_syntax.specs.Plain.{Bytes, plain_statements}
use Rattle.au_syntax.specs.Statements.{Statements}
use Rattle.au_typing.specs.Returns.{block_returns}
use Rattle.au_running_lives.specs.Lives.{AheadAll, put_each}
use Rattle.au_running_lives.specs.Counted.{SaysFree}
use Rattle.au_judged_bodies.specs.Parts.{EachIn, EachParameter}

-- a variable whose value may be dropped
abbrev pub may_drop : Sort → Bool
may_drop sort.Free = true
may_drop sort.WriteReference = true
may_drop sort.Linear = false

-- what the type of the variable of each number asks of its life
module _ (sorts : ℕ → Sort) where
  -- which names hold what may be dropped
  abbrev pub loose_by : ℕ → Bool
  loose_by k = may_drop (sorts k)

  module _ {I T C : Type 0} (see : View I T C) where
    -- The notes of an expression say of each mention of a variable in scope whether the variable is Free.
    abbrev pub SaysSorts : Scope → Expression Bytes T C → Type 0
    SaysSorts scope e =
        (x : Bytes) (v : Variable) → variable_of scope x ≡ Some v
        → SaysFree see x (is_free (sorts v.number)) e

    -- A name that is declared is new in its scope, and its variable has a good life over the block.
    abbrev pub Lives : ℕ → Scope → Bytes → Statements Bytes T C → Type 0
    Lives number scope x block =
        (variable_of scope x ≡ None) × GoodLife x (sorts number) (plain_statements (λ (b : Bytes). b) block)

  -- So it is in a whole function.
  pub record IsLived {I T C : Type 0} (f : Function I T C) : Type 0 where
    pub parameters : EachParameter f.view (SaysSorts f.view) (Lives f.view) f.first [] f.parameters f.body
    pub body : EachIn f.view (SaysSorts f.view) (Lives f.view) (f.first + length f.parameters) (scope_of f)
        f.body

  -- Where the variables of a function have good lives, and its body returns on each way, all its names get
  -- through what lies ahead of them, from where its parameters hold values.
  abbrev pub LivesAreAhead : {I T C : Type 0} → Function I T C → Type 0
  LivesAreAhead f =
      IsLived f → block_returns f.body ≡ true
      → AheadAll f.view loose_by (f.first + length f.parameters) (scope_of f) [] f.body (λ h. ⊥)
      (put_each f.first (length f.parameters) ready (λ k. empty))
