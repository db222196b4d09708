-- Code as it is written first: texts and types stand for themselves, and get their numbers when all of it is
-- written. The words here are those that put pieces together and find the labels.
use Rattle.std.specs.Prelude.{ℕ, ◌+◌, Bool, true, false, List, [], ◌∷◌, ◌++◌, length, Option, Some, None}
use Rattle.au_type_texts.specs.Types.{ClosedType}
use Rattle.au_low.specs.declared.instructions.Instr.{Instr}
use Rattle.au_low.specs.declared.instructions.Instr.TheVariants.{Jump, JumpNot}
use Rattle.au_shipped.specs.declared.prims.ShippedCall.{ShippedCall}
use Rattle.au_syntax.specs.Plain.{Bytes}

-- An instruction that names no text and no type; or one that pushes a text, that makes a value of a case of a
-- type, or that is a shipped call in which a value of a type is born.
pub data Draft : Type 0 where
  plain : Instr → Draft
  pushes_text : Bytes → Draft
  makes_case : (of : ClosedType) (tag : ℕ) (order : List ℕ) (home : Bytes) → Draft
  ships_birth : ShippedCall → (of : ClosedType) (order : List ℕ) → Draft

-- What is written from a place of its function on. A label is the place of an instruction.
abbrev pub Written : Type 0
Written = ℕ → List Draft

infixr 10 ◌>>◌
-- one piece behind another
abbrev pub ◌>>◌ : Written → Written → Written
a >> b = λ place. let first = a place in first ++ b (place + length first)

-- no instruction, and one
abbrev pub nothing : Written
nothing place = []

abbrev pub one : Draft → Written
one draft place = draft ∷ []

abbrev pub does : Instr → Written
does instr = one (plain instr)

-- what is written of something: where a tree isn't good and it isn't there, nothing is
abbrev pub given : {A : Type 0} → Option A → (A → Written) → Written
given None write = nothing
given (Some a) write = write a

-- ---- labels

-- what stands behind a block, unless the block returns on every path
abbrev pub unless : Bool → Instr → Written
unless true instr = nothing
unless false instr = does instr

-- how many instructions that is
abbrev pub count_unless : Bool → ℕ
count_unless true = 0
count_unless false = 1

-- `JUMPNOT(l) a l:`
abbrev pub when : Written → Written
when a place =
    let chosen = a (place + 1) in
    plain (JumpNot (place + 1 + length chosen)) ∷ chosen

-- `JUMPNOT(l) a JUMP(m) l: b m:`, without the jump where a returns on every path
abbrev pub either : Bool → Written → Written → Written
either returns a b place =
    let chosen = a (place + 1) in
    let l = place + 1 + length chosen + count_unless returns in
    let other = b l in
    plain (JumpNot l) ∷ (chosen ++ (unless returns (Jump (l + length other)) l ++ other))

-- the same, where there may be no b
abbrev pub branch : Bool → Written → Option Written → Written
branch returns a None = when a
branch returns a (Some b) = either returns a b

-- `t: test JUMPNOT(end) block JUMP(t) end:`, without the jump where the block returns on every path
abbrev pub looped : Bool → Written → Written → Written
looped returns test block t = (test >> when (block >> unless returns (Jump t))) t
