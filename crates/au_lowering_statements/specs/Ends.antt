-- Code whose jumps to its end lead to a place that is given: what is written before the end is known.
use Rattle.std.specs.Prelude.{◌≡◌, ◌≢◌, ◌<◌, ◌≤◌, ℕ, ◌+◌, Bool, true, false, ◌||◌, List, [], ◌∷◌, ◌++◌}
use Rattle.std.specs.Prelude.{length, set, Option, Some, None, unwrap_or}
use Rattle.au_typing.specs.Returns.{block_returns}
use Rattle.au_low.specs.declared.instructions.Instr.{Instr}
use Rattle.au_low.specs.declared.instructions.Instr.TheVariants as instr
use Rattle.au_lowered.specs.Drafts.{Draft, plain, Written, ◌>>◌, does, given, nothing, unless, count_unless}
use Rattle.au_lowered.specs.Drafts.{when}
use Rattle.au_lowered.specs.Expressions.{whole}
use Rattle.au_lowered.specs.Slots.{fields_of_case, with_fields}
use Rattle.au_lowered.specs.Statements.{ArmsWritten, block, is_last, mode_in}
use Rattle.au_lowering_expressions.specs.Wrote.{wrote}
use Rattle.au_meaning.specs.Names.{Scope, Variable}
use Rattle.au_meaning.specs.Statements.{tag_told}
use Rattle.au_meaning.specs.Views.{View}
use Rattle.au_syntax.specs.declared.expressions.BorrowMode.{BorrowMode}
use Rattle.au_syntax.specs.Plain.{Bytes}
use Rattle.au_syntax.specs.Types.{Bound}
use Rattle.au_syntax.specs.Statements.{Statements, Branches, Arms, no_branches, branches, no_arms, arms}

-- ---- branches

-- `JUMPNOT(l) a JUMP(m) l:`, without the jump where a returns on every path
abbrev pub first_to : Bool → ℕ → Written → Written
first_to returns m a place =
    let chosen = a (place + 1) in
    plain (instr.JumpNot (place + 1 + length chosen + count_unless returns))
    ∷ (chosen ++ unless returns (instr.Jump m) place)

-- a branch, whose jump leads to a place, where something follows it
abbrev pub branch_upto : Bool → Bool → ℕ → Written → Written
branch_upto true returns m a = first_to returns m a
branch_upto false returns m a = when a

-- whether there are tests
abbrev pub has_tests : {N T C : Type 0} → Branches N T C → Bool
has_tests no_branches = false
has_tests (branches e body rest) = true

-- an arm of a case that ends at a place, and then others
abbrev pub arm_upto : ℕ → Bool → Option ℕ → Written → (ℕ → ArmsWritten) → ℕ → ArmsWritten
arm_upto m unneeded tag body others place =
    let own = body place in
    let next = place + length own + count_unless unneeded in
    let rest = others next in
    record {
      starts = (tag, place) ∷ rest.starts;
      code = own ++ (unless unneeded (instr.Jump m) next ++ rest.code);
    }

module _ {T C : Type 0} (see : View ℕ T C) (around slot : ℕ) (scope : Scope) where
  -- the tests of a conditional that ends at a place, by whether something follows where none is true
  abbrev pub tests_upto : ℕ → Bool → Branches Bytes T C → Written
  tests_upto m more no_branches = nothing
  tests_upto m more (branches e body rest) =
      whole see around scope e
      >> branch_upto (more || has_tests rest) (block_returns body) m (block see around slot scope body)
      >> tests_upto m more rest

  -- the block of an arm, with the fields that it binds
  abbrev pub arm_block : T → Bytes → List (Bound Bytes) → Statements Bytes T C → Written
  arm_block note name binds body =
      let fields = fields_of_case see note name in
      block see around (slot + length fields) (with_fields fields slot binds scope) body

  -- the arms of a case that ends at a place, of a value that has this note
  abbrev pub arms_upto : ℕ → T → Arms Bytes T C → ℕ → ArmsWritten
  arms_upto m note no_arms place = record { starts = []; code = [] }
  arms_upto m note (arms at name binds body rest) place =
      arm_upto m (block_returns body || is_last rest) (tag_told see note name.name)
      (arm_block note name.name binds body) (arms_upto m note rest) place

-- ---- jumps

-- instructions of which those at these places go to a place
abbrev pub with_jumps : ℕ → List ℕ → List Draft → List Draft
with_jumps m [] code = code
with_jumps m (at ∷ rest) code = with_jumps m rest (set code at (plain (instr.Jump m)))

-- each of these places is one of the instructions
abbrev pub AllBelow : List ℕ → ℕ → Type 0
AllBelow [] n = Unit {0}
AllBelow (at ∷ rest) n = (at < n) × AllBelow rest n

-- a place is none of these
abbrev pub Apart : ℕ → List ℕ → Type 0
Apart p [] = Unit {0}
Apart p (at ∷ rest) = (p ≢ at) × Apart p rest

-- Code with jumps to a place is written behind other code, where the jumps are holes: if the holes so far are
-- instructions, so are all, and filled with any place they are the code with jumps to that place. New holes
-- stand in the code that is written.
pub record Holed (write : ℕ → Written) (jumps : List ℕ) (before : List Draft) (all : List ℕ)
    (after : List Draft) : Type 0 where
  pub longer : length before ≤ length after
  pub below : AllBelow jumps (length before) → AllBelow all (length after)
  pub apart : (p : ℕ) → p < length before → Apart p jumps → Apart p all
  pub filled : AllBelow jumps (length before) → (m : ℕ)
      → with_jumps m all after ≡ wrote (write m) (with_jumps m jumps before)

-- ---- what is done with a part

abbrev pub sets : ℕ → List ℕ → Written
sets slot numbers = does (instr.Set slot numbers)

abbrev pub puts : ℕ → List ℕ → Written
puts slot numbers = does (instr.Put slot numbers)

-- ---- borrow statements

-- a variable is borrowed, and the reference is in a slot
abbrev pub binds : BorrowMode → ℕ → Option Variable → Written
binds mode slot variable = given variable (λ x. does (instr.Bind x.number slot (mode_in mode)))

-- what stands behind that: a block, and then the end of the borrow
abbrev pub lent : Bool → ℕ → Written → Written
lent returns around block = block >> unless returns (instr.Close around)

-- ---- loops

-- one turn of `for`, from its own place on
abbrev pub turn_from : Bool → ℕ → Written → Written
turn_from returns slot block t =
    (does (instr.Look slot []) >> does (instr.Store (slot + 2)) >> block
    >> unless returns (instr.ForStep slot (slot + 1) t)) t
