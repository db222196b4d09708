-- Good blocks run, in each frame that fits their scope.
use Rattle.std.specs.Prelude.{ℕ, Bool, List, Option}
use Rattle.au_base.specs.declared.kinds.IntKind.{IntKind}
use Rattle.au_types.specs.Types.{Meaning, integer}
use Rattle.au_matching.specs.Bindings.{Bindings}
use Rattle.au_type_texts.specs.Given.{Given}
use Rattle.au_type_texts.specs.Types.{ClosedType}
use Rattle.au_memory.specs.Loans.{Types}
use Rattle.au_typing.specs.Notes.{Note}
use Rattle.au_typing.specs.Scopes.{Scope}
use Rattle.au_typing.specs.Statements.{GoodBlock}
use Rattle.au_typing.specs.Trees.{NotedStatements}
use Rattle.au_meaning.specs.Names as meaning
use Rattle.au_meaning.specs.Views.{View}
use Rattle.au_running_lives.specs.Blocks.{RunsAll}
use Rattle.au_running_lives.specs.Held.{IsPermitted, Permits}
use Rattle.au_running_lives.specs.Known.{Callables}
use Rattle.au_judged_bodies.specs.Besides.{BesidesAll}
use Rattle.au_judged_bodies.specs.Covering.{MayHold}
use Rattle.au_judged_bodies.specs.Rounds.{PlaceFits}

-- A block that is good by the rules of typing runs in each frame that fits its scope, returns what the body
-- returns, its names hold what they may, and arguments are of types that may be handed on.
module _ (types : Types) (owner : ClosedType → Option (List ℕ)) {I K : Type 0} (see : View I Note (Unit {0}))
    (known : Callables I K) (may_hand : Meaning → Type 0) (given : Given) (Stands : Bindings → Type 0)
    {V W : Type 0} (permits : Permits V W) (key : V) where
  abbrev pub BlocksRun : Type 0
  BlocksRun =
      (loose : ℕ → Bool) (result : Meaning) (block : NotedStatements) (active : ℕ → Bool) (number : ℕ)
      (sc : Scope)
      (scope : meaning.Scope) (s : Bindings) (names : ℕ → Meaning)
      → PlaceFits types owner see known may_hand given Stands result active number sc scope s names
      → ((kind : IntKind) → IsPermitted permits key (integer kind))
      → GoodBlock block sc → BesidesAll see loose (MayHold permits key Stands) may_hand number sc scope block
      → RunsAll types owner see known result loose permits key active number scope block names
