-- What it means that written code does what a statement or a block of the meaning does.
use Rattle.std.specs.Prelude.{◌≡◌, ◌⊎◌, ℕ, ◌<◌, ◌≤◌, Bool, false, List, [], ◌∷◌, ◌++◌, length, Option, Some}
use Rattle.std.specs.Prelude.{slice_get}
use Rattle.au_low.specs.Instructions as low
use Rattle.au_lowered.specs.Drafts.{Draft, Written}
use Rattle.au_lowered.specs.Standing.{Stands}
use Rattle.au_meaning.specs.Names.{Scope}
use Rattle.au_meaning.specs.Statements as meaning
use Rattle.au_meaning.specs.Statements.{Flow}
use Rattle.au_meaning.specs.Ticks.{Action}
use Rattle.au_meaning.specs.Worlds.{Value}
use Rattle.au_lowered.specs.Scopes.{Entry, numbers_in, slots_in, Scoped, Held, InScope, From}
use Rattle.au_lowered.specs.Frames.{Frame, Wide, Since, Rest_of, Agree, spot, machine, world}
use Rattle.au_lowered.specs.Sides.{Coding, Both, Names, Slots, Common, meant, ran}
use Rattle.au_lowered.specs.Runs.{Reach, at, reached, Aim, Sim}

-- how a statement ends: the next one follows, or a value is returned
pub data Way (by : Coding) : Type 0 where
  falls : Way by
  returns : Both by → Way by

module _ (by : Coding) where
  -- the same for the meaning
  abbrev pub way_meant : Way by → Flow
  way_meant falls = meaning.falls
  way_meant (returns v) = meaning.returns (meant by v)

module _ (by : Coding) (f : Frame by) where
  -- What names and slots hold where the next statement follows; where a value is returned, the frames below
  -- agree, and so do the borrows that are open.
  abbrev pub OnFalls : (Names → Slots → Type 0) → Way by → Names → Slots → Type 0
  OnFalls Holds falls names slots = Holds names slots
  OnFalls Holds (returns v) names slots = Rest_of by f names slots

  -- where a frame leads that returns a value
  abbrev pub gone : Both by → Slots → Common by → Reach
  gone v slots c = reached (spot by f 0 [] slots c) (low.returns f.waiting (ran by v) (machine by f 0 []
      slots c))

  -- where a statement leads that ends at a place
  abbrev pub lands : ℕ → Way by → Slots → Common by → Reach
  lands q falls slots c = at (spot by f q [] slots c)
  lands q (returns v) slots c = gone v slots c

  abbrev pub flow_aim : (Names → Slots → Type 0) → ℕ → Aim by Flow (Way by)
  flow_aim Holds q = record { view = way_meant by; holds = OnFalls Holds; target = lands q }

module _ (by : Coding) (f : Frame by) (get : ℕ → Option Draft) (depth : ℕ) (wide : Wide) (room : ℕ) where
  -- what holds behind a block that returns on every path or doesn't
  abbrev pub Behind : Bool → List (Entry by) → Names → Slots → Type 0
  Behind out scope names slots = (out ≡ false) × Agree by f wide room scope names slots

  -- What holds behind the statements of a block: what names from one on up to another hold goes with the
  -- block.
  pub record Ended (first top : ℕ) (scope : List (Entry by)) (names : Names) (slots : Slots) : Type 0 where
    pub names_are : length names.own ≡ wide.count
    pub slots_are : length slots.own ≡ room
    pub held : Held by scope names.own slots.own
    pub only : (n : ℕ) (value : Value) → slice_get names.own n ≡ Some (Some value)
        → InScope by n scope ⊎ ((first ≤ n) × (n < top))
    pub rest : Rest_of by f names slots
    pub since : Since wide.opens wide.around (length names.lent)

  abbrev pub Inside : Bool → ℕ → ℕ → List (Entry by) → Names → Slots → Type 0
  Inside out first top scope names slots = (out ≡ false) × Ended first top scope names slots

  -- What holds behind a statement: these are the scopes of the meaning and of the code, with what was
  -- declared, which has numbers from one on, and the next number and the next slot.
  pub record Declared (first : ℕ) (scope : List (Entry by)) (numbers slots : Scope) (number slot : ℕ) (names :
      Names) (held : Slots)
      : Type 0 where
    pub new : List (Entry by)
    pub fresh : From by first new
    pub numbers_are : numbers ≡ numbers_in by (new ++ scope)
    pub slots_are : slots ≡ slots_in by (new ++ scope)
    pub scoped : Scoped by number slot (new ++ scope)
    pub agree : Agree by f wide room (new ++ scope) names held

  abbrev pub After : Bool → ℕ → List (Entry by) → Scope → Scope → ℕ → ℕ → Names → Slots → Type 0
  After out first scope numbers slots number slot names held =
      (out ≡ false) × Declared first scope numbers slots number slot names held

  -- a statement or a block, with so many steps to spare
  pub record Does (scope : List (Entry by)) (write : Written) (m : Action Flow) (Holds : Names → Slots
      → Type 0) : Type 0 where
    pub runs : (p q : ℕ) (names : Names) (slots : Slots) (c : Common by) (n : ℕ)
        → Stands get write p q → Agree by f wide room scope names slots → n ≤ depth
        → Sim by f (flow_aim by f Holds q) 0 (spot by f p [] slots c) n (m (world by f names c) n)

  -- a whole expression
  pub record Whole (scope : List (Entry by)) (write : Written) (m : Action Value) : Type 0 where
    pub runs : (p q : ℕ) (names : Names) (slots : Slots) (c : Common by) (n : ℕ)
        → Stands get write p q → Agree by f wide room scope names slots → n ≤ depth
        → Sim by f
        (record {
          view = meant by;
          holds = λ v names slots. Agree by f wide room scope names slots;
          target = λ v slots c. at (spot by f q (v ∷ []) slots c);
        })
        5 (spot by f p [] slots c) n (m (world by f names c) n)
