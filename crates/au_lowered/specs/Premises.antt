-- What is wanted of a view, of the code of a function, and of calls.
use Rattle.std.specs.Prelude.{◌≡◌, ℕ, suc, ◌+◌, ◌<◌, true, false, List, [], ◌∷◌, ◌++◌, length, reverse}
use Rattle.std.specs.Prelude.{Option, Some, slice_get, nat_lt}
use Rattle.std.specs.Str.{bytes_eq}
use Rattle.au_type_texts.specs.Types.{ClosedType}
use Rattle.au_effects.specs.Values as values
use Rattle.au_ints.specs.Ranges.{is_of_kind}
use Rattle.au_low.specs.declared.code.LowType.{LowType}
use Rattle.au_low.specs.declared.instructions.Instr.{Instr}
use Rattle.au_low.specs.declared.instructions.Instr.TheVariants as instr
use Rattle.au_low.specs.Instructions.{instructions, text_bytes}
use Rattle.au_low.specs.Machines.{ordered}
use Rattle.au_lowered.specs.Drafts.{Draft, plain, pushes_text, makes_case, ships_birth}
use Rattle.au_lowered.specs.Laws.{labels_in}
use Rattle.au_meaning.specs.Ticks.{Action}
use Rattle.au_meaning.specs.Views.{View, Callee}
use Rattle.au_meaning.specs.Worlds.{Value}
use Rattle.au_shipped.specs.declared.prims.ShippedCall.{ShippedCall}
use Rattle.au_lowered.specs.Sides.{Coding, Both, Names, Slots, Common, meant, all_meant, all_ran}
use Rattle.au_lowered.specs.Frames.{Frame, Wide, Agree, spot, world}
use Rattle.au_lowered.specs.Scopes.{Entry, Distinct}
use Rattle.au_lowered.specs.Runs.{aim_at, Sim}
use Rattle.au_syntax.specs.Plain.{Bytes}

-- ---- views

-- a value that has a literal: a number lies in the range of its kind
abbrev pub HasLiteral : Value → Type 0
HasLiteral values.unit = Unit {0}
HasLiteral (values.truth b) = Unit {0}
HasLiteral (values.number kind z) = is_of_kind kind z ≡ true
HasLiteral (values.text t) = Unit {0}
HasLiteral other = ⊥

-- no name is given twice
abbrev pub Lacks : Bytes → List Bytes → Type 0
Lacks name [] = Unit {0}
Lacks name (other ∷ rest) = (bytes_eq name other ≡ false) × Lacks name rest

abbrev pub Once : List Bytes → Type 0
Once [] = Unit {0}
Once (name ∷ rest) = Lacks name rest × Once rest

module _ {T C : Type 0} (by : Coding) (see : View ℕ T C) where
  -- A view that code can follow: constants have literals, parameters have names of their own, and a type of
  -- the code is linear where the view says so.
  pub record GoodView : Type 0 where
    pub constants : (note : T) (name : Bytes) (value : Value) → see.constant note name ≡ Some value
        → HasLiteral value
    pub parameters : (note : T) (c : C) (name : Bytes) (one : Callee ℕ) → see.callee note c name ≡ Some one
        → Once one.parameters
    pub linear : (of : ClosedType) (type : LowType) → slice_get by.code.types (by.of of) ≡ Some type
        → type.linear ≡ see.is_linear of

-- ---- code

-- an instruction in which texts and types have their numbers
abbrev pub numbered : Coding → Draft → Instr
numbered by (plain i) = i
numbered by (pushes_text text) = instr.PushText (by.text text)
numbered by (makes_case of tag order home) = instr.Make (by.of of) tag order home
numbered by (ships_birth call of order) = instr.Shipped call (Some (by.of of)) order

-- labels are places of a function
abbrev pub EachIn : ℕ → List ℕ → Type 0
EachIn many [] = Unit {0}
EachIn many (label ∷ rest) = (nat_lt label many ≡ true) × EachIn many rest

module _ (by : Coding) (function : ℕ) (get : ℕ → Option Draft) where
  -- The code of a function has what is written at each place, its labels are places of the function, and
  -- the texts and types that it names are there.
  pub record Placed : Type 0 where
    pub has : (p : ℕ) (draft : Draft) → get p ≡ Some draft
        → slice_get (instructions (slice_get by.code.functions function)) p ≡ Some (numbered by draft)
    pub labels : (p : ℕ) (i : Instr) → get p ≡ Some (plain i)
        → EachIn (length (instructions (slice_get by.code.functions function))) (labels_in i)
    pub texts : (p : ℕ) (text : Bytes) → get p ≡ Some (pushes_text text)
        → (text_bytes by.code (by.text text) ≡ text) × (nat_lt (by.text text) (length by.code.texts) ≡ true)
    pub types : (p : ℕ) (of : ClosedType) (tag : ℕ) (order : List ℕ) (home : Bytes)
        → get p ≡ Some (makes_case of tag order home)
        → (type : LowType) × (slice_get by.code.types (by.of of) ≡ Some type)
    pub births : (p : ℕ) (call : ShippedCall) (of : ClosedType) (order : List ℕ)
        → get p ≡ Some (ships_birth call of order) → nat_lt (by.of of) (length by.code.types) ≡ true

-- ---- calls

-- A call of a function, from any frame, does what its meaning does: the frame agrees again, and the result is
-- pushed.
abbrev pub GoodCalls : (by : Coding) → (ℕ → List Value → Action Value) → ℕ → Type 0
GoodCalls by invoke depth =
    (f : Frame by) (i : ℕ) (order : List ℕ) (vs args ops : List (Both by)) (p l : ℕ) (wide : Wide) (room : ℕ)
    (scope : List (Entry by)) (names : Names) (slots : Slots) (c : Common by) → l < depth
    → slice_get (instructions (slice_get by.code.functions f.function)) p ≡ Some (instr.Call i order)
    → length vs ≡ length order → length vs ≡ length args
    → ordered order (all_ran by vs) ≡ Some (all_ran by args)
    → Distinct by scope → Agree by f wide room scope names slots
    → Sim by f
    (aim_at (meant by) (λ (v : Both by) (n : Names) (s : Slots). Agree by f wide room scope n s)
    (λ (v : Both by) (s : Slots) (after : Common by). spot by f (p + 1) (v ∷ ops) s after))
    6 (spot by f p (reverse vs ++ ops) slots c) (suc l)
    (invoke i (all_meant by args) (world by f names c) l)
