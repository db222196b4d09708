-- What holds of all that is lowered: how many instructions it has, and where its labels lead.
use Rattle.std.specs.Prelude.{◌≡◌, ℕ, ◌+◌, ◌≤◌, true, IsTrue, List, [], ◌∷◌, length}
use Rattle.au_typing.specs.Returns.{returns, block_returns, may_follow}
use Rattle.au_low.specs.declared.instructions.Instr.{Instr}
use Rattle.au_low.specs.declared.instructions.Instr.TheVariants.{Jump, JumpNot, ForTest, ForStep, Case}
use Rattle.au_meaning.specs.Names.{Scope}
use Rattle.au_meaning.specs.Views.{Function, View}
use Rattle.au_syntax.specs.Expressions.{Expression}
use Rattle.au_syntax.specs.Plain.{Bytes}
use Rattle.au_syntax.specs.Statements.{Statement, Statements, Branches, Arms, conditional, conditional_else}
use Rattle.au_syntax.specs.Statements.{case_of, while_loop, for_loop, borrow_in, borrow_typed, no_statements}
use Rattle.au_syntax.specs.Statements.{statements, no_branches, branches, no_arms, arms}
use Rattle.au_lowered.specs.Drafts.{Draft, plain, Written}
use Rattle.au_lowered.specs.Expressions.{code}
use Rattle.au_lowered.specs.Programs.{body_of}
use Rattle.au_lowered.specs.Statements.{block}

-- ---- labels

-- the labels of an instruction
abbrev pub labels_in : Instr → List ℕ
labels_in (Jump label) = label ∷ []
labels_in (JumpNot label) = label ∷ []
labels_in (ForTest counter last label) = label ∷ []
labels_in (ForStep counter last label) = label ∷ []
labels_in (Case slot labels) = labels
labels_in other = []

abbrev pub labels_of : Draft → List ℕ
labels_of (plain instr) = labels_in instr
labels_of other = []

-- each label stands so many places before an end, or more
abbrev pub EachBefore : ℕ → ℕ → List ℕ → Type 0
EachBefore places end [] = Unit {0}
EachBefore places end (label ∷ rest) = (label + places ≤ end) × EachBefore places end rest

-- so do the labels of each instruction
abbrev pub LabelsBefore : ℕ → ℕ → List Draft → Type 0
LabelsBefore places end [] = Unit {0}
LabelsBefore places end (draft ∷ rest) =
    EachBefore places end (labels_of draft) × LabelsBefore places end rest

-- What is written has as many instructions at each place, and at least so many; and its labels lead to places
-- that stand at least so many before its end.
pub record Fits (places : ℕ) (write : Written) : Type 0 where
  pub steady : (p q : ℕ) → length (write p) ≡ length (write q)
  pub long : (p : ℕ) → places ≤ length (write p)
  pub before : (p : ℕ) → LabelsBefore places (p + length (write p)) (write p)

-- ---- what follows a return

module _ {N T C : Type 0} where
  abbrev mutual
    -- nothing follows a statement that returns on every path, in the blocks of a statement
    pub Tidy : Statement N T C → Type 0
    Tidy (conditional at tests) = TestsTidy tests
    Tidy (conditional_else at tests other) = TestsTidy tests × BlockTidy other
    Tidy (case_of at e all) = ArmsTidy all
    Tidy (while_loop at e body) = BlockTidy body
    Tidy (for_loop at name first last body) = BlockTidy body
    Tidy (borrow_in at access x r region body stop) = BlockTidy body
    Tidy (borrow_typed at r t mode x body stop) = BlockTidy body
    Tidy other = Unit {0}

    -- nor in a block
    pub BlockTidy : Statements N T C → Type 0
    BlockTidy no_statements = Unit {0}
    BlockTidy (statements s rest) = Tidy s × IsTrue (may_follow (returns s) rest) × BlockTidy rest

    pub TestsTidy : Branches N T C → Type 0
    TestsTidy no_branches = Unit {0}
    TestsTidy (branches e body rest) = BlockTidy body × TestsTidy rest

    pub ArmsTidy : Arms N T C → Type 0
    ArmsTidy no_arms = Unit {0}
    ArmsTidy (arms at name binds body rest) = BlockTidy body × ArmsTidy rest

-- ---- laws

module _ (T C : Type 0) where
  -- The code of an expression has as many instructions at each place, and its labels lead to no place behind
  -- it.
  abbrev pub ExpressionsFit : Type 0
  ExpressionsFit = (see : View ℕ T C) (scope : Scope) (e : Expression Bytes T C) → Fits 0 (code see scope e)

  -- So does the code of a block.
  abbrev pub BlocksFit : Type 0
  BlocksFit = (see : View ℕ T C) (around slot : ℕ) (scope : Scope) (b : Statements Bytes T C)
      → Fits 0 (block see around slot scope b)

  -- The labels of a body that returns on every path, and in which nothing follows a return, are places of its
  -- instructions.
  abbrev pub BodiesKeepLabels : Type 0
  BodiesKeepLabels = (f : Function ℕ T C) → block_returns f.body ≡ true → BlockTidy f.body
      → LabelsBefore 1 (length (body_of f)) (body_of f)
