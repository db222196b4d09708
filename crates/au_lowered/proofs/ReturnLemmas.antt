-- The labels of what returns on every path lead to places before its end.
use Rattle.std.proofs.Common.{◌≡◌, ℕ, ◌+◌, Bool, true, false, not, ◌||◌, IsTrue, [], length, Option}
use Rattle.std.proofs.Common.{Some, None, refl, subst, arith, unwrap_or}
use Rattle.std.proofs.lemmas.Bool.{or_left, and_parts}
use Rattle.au_base.proofs.BoolLemmas.{first_holds}
use Rattle.au_typing.specs.Returns.{returns, block_returns, branches_return, arms_return}
use Rattle.au_low.specs.declared.instructions.Instr.TheVariants as instr
use Rattle.au_meaning.specs.Expressions.{note_of}
use Rattle.au_meaning.specs.Names.{Scope, Variable, variable_of, with_parameters, mode_of}
use Rattle.au_meaning.specs.Views.{View}
use Rattle.au_syntax.specs.declared.expressions.BorrowMode.{BorrowMode}
use Rattle.au_syntax.specs.Plain.{Bytes}
use Rattle.au_syntax.specs.Statements.{Statement, Statements, Branches, Arms, skip, declare, destructure}
use Rattle.au_syntax.specs.Statements.{assign, assign_through, conditional, conditional_else, case_of}
use Rattle.au_syntax.specs.Statements.{while_loop, for_loop, borrow_in, borrow_typed, discard, return_of}
use Rattle.au_syntax.specs.Statements.{no_statements, statements, no_branches, branches, no_arms, arms}
use Rattle.au_lowered.specs.Drafts.{plain, Written, nothing, branch}
use Rattle.au_lowered.specs.Laws.{Fits, LabelsBefore, Tidy, BlockTidy, TestsTidy, ArmsTidy, BodiesKeepLabels}
use Rattle.au_lowered.specs.Programs.{body_of}
use Rattle.au_meaning.specs.Statements.{tag_told}
use Rattle.au_lowered.specs.Statements.{ArmsWritten, arm_then, lends, is_last, statement, block, tests_of, arms_of}
use Rattle.au_lowered.proofs.FitLemmas.{fits_both, fits_last, fits_one, fits_given, fits_returning, ArmsFit}
use Rattle.au_lowered.proofs.FitLemmas.{arms_end, arms_returning, fits_cases}
use Rattle.au_lowered.proofs.TreeLemmas.{fits_expression, fits_whole, fits_statement}

-- ---- truth values

second_true : (a b : Bool) → IsTrue (not a) → (a || b) ≡ true → b ≡ true
second_true true b n e = cc
second_true false b n e = e

-- ---- what is written where something is

abbrev Found : Option Written → Type 0
Found None = ⊥
Found (Some w) = Fits 1 w

found : (w : Option Written) → Found w → Fits 1 (unwrap_or w nothing)
found None fw = absurd fw
found (Some w) fw = fw

returning_branch : (r : Bool) (b : Option Written) {a : Written} → r ≡ true → Fits 1 a → Found b
    → Fits 1 (branch r a b)
returning_branch r None e fa fb = absurd fb
returning_branch true (Some b) e fa fb = fits_returning fa fb
returning_branch false (Some b) e fa fb = cc

returning_lends : (r : Bool) (around slot : ℕ) (mode : BorrowMode) (x : Option Variable) {body : Written}
    → r ≡ true → Fits 1 body → Fits 1 (lends r around slot mode x body)
returning_lends true around slot mode x e fb =
    fits_both (fits_given x _ (λ v. fits_one 0 _ (omega arith) refl)) (fits_last fb)
returning_lends false around slot mode x e fb = cc

returning_arm : (r : Bool) (tag : Option ℕ) {a : Written} {others : ℕ → ArmsWritten} → r ≡ true → Fits 1 a
    → ArmsFit 1 others → ArmsFit 1 (arm_then r tag a others)
returning_arm true tag e fa fo = arms_returning tag fa fo
returning_arm false tag e fa fo = cc

module _ {T C : Type 0} (see : View ℕ T C) where
  mutual
    returning_statement : (around slot : ℕ) (scope : Scope) (s : Statement Bytes T C) → returns s ≡ true → Tidy s
        → Fits 1 (statement see around slot scope s)
    returning_statement around slot scope (skip at) e h = cc
    returning_statement around slot scope (declare at binding name t v) e h = cc
    returning_statement around slot scope (destructure at binds v) e h = cc
    returning_statement around slot scope (assign at x fs v) e h = cc
    returning_statement around slot scope (assign_through at r fs v) e h = cc
    returning_statement around slot scope (conditional at tests) e h = cc
    returning_statement around slot scope (conditional_else at tests other) e h =
        let each = and_parts (branches_return tests) (block_returns other) e in
        found (tests_of see around slot scope tests (Some (block see around slot scope other)))
        (returning_tests around slot scope tests _ each.0 h.0 (returning_block around slot scope other each.1 h.1))
    returning_statement around slot scope (case_of at v all) e h =
        fits_both (fits_whole see around scope v)
        (fits_cases slot (omega arith) (returning_arms around slot scope (note_of v) all e h))
    returning_statement around slot scope (while_loop at v body) e h = cc
    returning_statement around slot scope (for_loop at name first last body) e h = cc
    returning_statement around slot scope (borrow_in at access x r region body stop) e h =
        returning_lends (block_returns body) around slot (mode_of access) (variable_of scope x.name) e
        (returning_block (around + 1) (slot + 1) _ body e h)
    returning_statement around slot scope (borrow_typed at r t mode x body stop) e h =
        returning_lends (block_returns body) around slot mode (variable_of scope x.name) e
        (returning_block (around + 1) (slot + 1) _ body e h)
    returning_statement around slot scope (discard at v) e h = cc
    returning_statement around slot scope (return_of at v) e h =
        fits_both (fits_expression see scope v) (fits_one 1 (plain instr.Return) (omega arith) refl)

    returning_block : (around slot : ℕ) (scope : Scope) (b : Statements Bytes T C) → block_returns b ≡ true
        → BlockTidy b → Fits 1 (block see around slot scope b)
    returning_block around slot scope no_statements e h = cc
    returning_block around slot scope (statements s no_statements) e h =
        fits_last (returning_statement around slot scope s (first_holds (returns s) e) h.0)
    returning_block around slot scope (statements s (statements r more)) e h =
        fits_both (fits_statement see around slot scope s)
        (returning_block around _ _ (statements r more)
        (second_true (returns s) (block_returns (statements r more)) h.1 e) h.2)

    returning_tests : (around slot : ℕ) (scope : Scope) (tests : Branches Bytes T C) (other : Written)
        → branches_return tests ≡ true → TestsTidy tests → Fits 1 other
        → Found (tests_of see around slot scope tests (Some other))
    returning_tests around slot scope no_branches other e h fo = fo
    returning_tests around slot scope (branches v body rest) other e h fo =
        let each = and_parts (block_returns body) (branches_return rest) e in
        fits_both (fits_whole see around scope v)
        (returning_branch (block_returns body) (tests_of see around slot scope rest (Some other)) each.0
        (returning_block around slot scope body each.0 h.0)
        (returning_tests around slot scope rest other each.1 h.1 fo))

    returning_arms : (around slot : ℕ) (scope : Scope) (note : T) (all : Arms Bytes T C) → arms_return all ≡ true
        → ArmsTidy all → ArmsFit 1 (arms_of see around slot scope note all)
    returning_arms around slot scope note no_arms e h = arms_end
    returning_arms around slot scope note (arms at name binds body rest) e h =
        let each = and_parts (block_returns body) (arms_return rest) e in
        returning_arm (block_returns body || is_last rest) (tag_told see note name.name)
        (or_left (block_returns body) (is_last rest) each.0)
        (returning_block around _ _ body each.0 h.0)
        (returning_arms around slot scope note rest each.1 h.1)

-- the labels of a body
pub bodies_keep_labels : {T C : Type 0} → BodiesKeepLabels T C
bodies_keep_labels f e h =
    let fits = returning_block f.view 0 (length f.parameters) (with_parameters 0 f.parameters []) f.body e h in
    subst (λ n. LabelsBefore 1 n (body_of f)) (omega arith) (fits.before 0)
