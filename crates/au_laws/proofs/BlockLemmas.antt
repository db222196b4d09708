-- A statement and a block are refused for just what their first fault tells.
use Rattle.std.proofs.Common.{◌≡◌, ◌⊎◌, inl, inr, Bool, true, false, List, [], ◌∷◌, refl, sym, ap, subst, ◌∙◌}
use Rattle.std.proofs.Common.{Some, None}
use Rattle.std.specs.Prelude.{Ok, Err}
use Rattle.au_base.specs.declared.places.Pos.{Pos}
use Rattle.au_syntax.specs.Names.{Placed}
use Rattle.au_syntax.specs.Types.{Bound}
use Rattle.au_syntax.specs.Plain.{Bytes, PlainArms, PlainBranches, PlainExpression, PlainStatement, PlainStatements}
use Rattle.au_syntax.specs.Statements.{skip, declare, destructure, assign, assign_through, conditional}
use Rattle.au_syntax.specs.Statements.{conditional_else, case_of, while_loop, for_loop, borrow_in}
use Rattle.au_syntax.specs.Statements.{borrow_typed, discard, return_of, no_statements, statements}
use Rattle.au_syntax.specs.Statements.{no_branches, branches, no_arms, arms}
use Rattle.au_types.specs.Types as mean
use Rattle.au_types.specs.Types.{Meaning}
use Rattle.au_typing.specs.Scopes.{Scope}
use Rattle.au_typing.specs.Bare.{is_bare}
use Rattle.au_typing.specs.Faults.{Fault, Noting, ◌>>=◌, check, known_or, shape, integer_wanted}
use Rattle.au_typing.specs.Faults.{not_free, record_wanted}
use Rattle.au_typing.specs.Good.{IsNoting}
use Rattle.au_typing.specs.Lookups.{is_free_in, outcome_noted, written_means, written_type}
use Rattle.au_typing.specs.Notes.{Mode, NotedExpression, erase, type_of}
use Rattle.au_typing.specs.Operands.{of_one_type, paired}
use Rattle.au_typing.specs.Rules.{is_integer}
use Rattle.au_typing.specs.Search.{note}
use Rattle.au_typing.proofs.Refused.{noting_is_given}
use Rattle.au_typing.proofs.Sound.{sound}
use Rattle.au_typing.proofs.Steps.{bind_found, bind_ok, ok_same}
use Rattle.au_typing.specs.DerivationFaults.{Judged, ◌then◌, StatementFault, fault_at, placed}
use Rattle.au_typing.specs.InScope.{after, fixed_variable, with_bound, with_reference, with_variable}
use Rattle.au_typing.specs.Parts.{borrow_type, heads_of, mode_for}
use Rattle.au_typing.specs.Returns.{returns}
use Rattle.au_typing.specs.DerivationSearch.{judge_assigned, judge_binds, judge_borrow, judge_heads}
use Rattle.au_typing.specs.DerivationSearch.{judge_lent, judge_next, judge_put, judge_union, note_arms}
use Rattle.au_typing.specs.DerivationSearch.{note_assigned, note_block, note_bounds, note_branches, note_case}
use Rattle.au_typing.specs.DerivationSearch.{note_declared, note_discarded, note_put, note_statement}
use Rattle.au_typing.specs.DerivationSearch.{note_taken, note_test, note_tests, place_of}
use Rattle.au_typing.specs.Trees.{NotedArms, NotedBranches, NotedStatement, NotedStatements}
use Rattle.au_typing.proofs.FoundLemmas.{block_found, statement_found}
use Rattle.au_typing.proofs.PartLemmas.{borrow_found, bounds_found, case_found, lent_found}
use Rattle.au_typing.proofs.SoundLemmas.{block_sound, statement_sound}
use Rattle.au_typing.proofs.SoundPartLemmas.{borrow_sound, bounds_sound, case_sound, lent_sound}
use Rattle.au_typing.proofs.StepLemmas.{placed_gave, then_gave}
use Rattle.au_typing.proofs.RefusalLemmas.{fault_is, then_failed, next_failed}
use Rattle.au_typing.proofs.OrderLemmas.{bind_fails}
use Rattle.au_laws.specs.FirstFaults.{FirstFault}
use Rattle.au_laws.specs.FirstInStatements.{BehindTest, BlockNext, BlockNoted, BlocksNoted, ExpressionNext}
use Rattle.au_laws.specs.FirstInStatements.{FaultIn, FaultOf, InArm, OwnFault, StatementBreaks}
use Rattle.au_laws.specs.FirstInStatements.{StatementNoted, TestNext, TestsNoted, a_borrow, a_case}
use Rattle.au_laws.specs.FirstInStatements.{a_declared_type, a_destructuring, a_place_behind, a_result}
use Rattle.au_laws.specs.FirstInStatements.{a_typed_borrow, an_assigned_place, behind_a_later_test}
use Rattle.au_laws.specs.FirstInStatements.{behind_a_test, behind_a_test_with_else, behind_else}
use Rattle.au_laws.specs.FirstInStatements.{behind_return, behind_this_test, bounds, in_a_borrow, in_a_for}
use Rattle.au_laws.specs.FirstInStatements.{in_a_later_arm, in_a_typed_borrow, in_a_while, in_an_arm}
use Rattle.au_laws.specs.FirstInStatements.{in_this_arm, its_own, of_a_block, of_an_expression, of_assignment}
use Rattle.au_laws.specs.FirstInStatements.{of_assignment_through, of_call, of_case_of, of_declared}
use Rattle.au_laws.specs.FirstInStatements.{of_destructured, of_for, of_return, of_tests, of_tests_with_else}
use Rattle.au_laws.specs.FirstInStatements.{of_the_first, of_the_rest, of_the_statement, of_while}
use Rattle.au_laws.specs.StatementClauses.{of_assigned, of_borrow_into, of_bounds, of_case, of_free, of_lent}
use Rattle.au_laws.specs.StatementClauses.{of_put, of_taken}
use Rattle.au_laws.proofs.ClauseLemmas.{fails_first, first_fails}
use Rattle.au_laws.proofs.NodeLemmas.{pair_fails, pair_given}
use Rattle.au_laws.proofs.OwnLemmas.{assigned_failed, assigned_given, bounds_failed, case_failed}
use Rattle.au_laws.proofs.OwnLemmas.{declared_failed, put_failed, put_given, result_failed, taken_failed}
use Rattle.au_laws.proofs.OwnLemmas.{test_fails, tests_are, tests_failed, tests_given, then_statement}
use Rattle.au_laws.proofs.StatementClauseLemmas.{assigned_tells, borrow_tells, bounds_tell, case_tells}
use Rattle.au_laws.proofs.StatementClauseLemmas.{only_lent_tells, put_tells, result_tells, taken_tells}
use Rattle.au_laws.proofs.TellLemmas.{fault_fails}

-- ---- steps

pub then_fails : {A B : Type 0} {r : Judged A} {f : StatementFault} (next : A → Judged B) → r ≡ Err f
    → (r then next) ≡ Err f
then_fails next h = ap (λ r. r then next) h

pub then_found : {A B : Type 0} {r : Judged A} {x : A} (next : A → Judged B) → r ≡ Ok x
    → (r then next) ≡ next x
then_found next h = ap (λ r. r then next) h

pub placed_failed : {A : Type 0} (at : Pos) (r : Noting A) (f : StatementFault) → placed at r ≡ Err f
    → (g : Fault) × (r ≡ Err g) × (f ≡ fault_at at g)
placed_failed at (Ok x) f h = absurd cc
placed_failed at (Err g) f h = (g, refl, sym (fault_is (fault_at at g) f h))

-- what stands behind a step that fails at its place
pub own_fails : {A B : Type 0} (at : Pos) {r : Noting A} {f : Fault} (next : A → Judged B) → r ≡ Err f
    → (placed at r then next) ≡ Err (fault_at at f)
own_fails at next h = ap (λ r. placed at r then next) h

pub own_found : {A B : Type 0} (at : Pos) {r : Noting A} {x : A} (next : A → Judged B) → r ≡ Ok x
    → (placed at r then next) ≡ next x
own_found at next h = ap (λ r. placed at r then next) h

pub only_then : {A B : Type 0} (r : Judged A) (g : A → B) (f : StatementFault)
    → (r then λ x. Ok (g x)) ≡ Err f → r ≡ Err f
only_then (Ok x) g f h = absurd cc
only_then (Err k) g f h = ap Err (fault_is k f h)

-- ---- from the first fault to the search

given : (sc : Scope) (e : PlainExpression) (a : NotedExpression) (mode : Mode) → IsNoting sc e mode a
    → note sc e mode ≡ Ok a
given sc e a mode h = noting_is_given sc e mode a h

expression_fails : (sc : Scope) (s : PlainStatement) (e : PlainExpression) (mode : Mode) (f : Fault)
    → ExpressionNext sc s e mode → note sc e mode ≡ Err f → note_statement s sc ≡ Err (fault_at (place_of s) f)
expression_fails sc s e mode f (of_declared at binding name t d of is) h =
    own_fails at (λ a. Ok (declare at binding name t a))
    (bind_found (λ (u : Meaning). note sc d (Some u)) (ap outcome_noted is) ∙ h)
expression_fails sc s e mode f (of_destructured at binds d) h =
    own_fails at (λ a. Ok (destructure at binds a))
    (bind_fails (λ (a : NotedExpression). known_or (shape record_wanted) (sc.outside.fields (type_of a))
    >>= λ fields. judge_binds sc fields binds >>= λ bound. Ok a) h)
expression_fails sc s e mode f (of_assignment at x path d of place) h =
    own_fails at (λ a. Ok (assign at x path a))
    (bind_found (λ (u : Meaning). note sc d (Some u)) (assigned_given sc x.name path of place) ∙ h)
expression_fails sc s e mode f (of_assignment_through at r path d of place) h =
    own_fails at (λ a. Ok (assign_through at r path a))
    (bind_found (λ (u : Meaning). note sc d (Some u)) (put_given sc r.name path of place) ∙ h)
expression_fails sc s e mode f (of_tests at tests d next) h =
    own_fails at (λ noted. note_branches tests noted sc then λ all. Ok (conditional at all))
    (test_fails sc tests d f next h)
expression_fails sc s e mode f (of_tests_with_else at tests block d next) h =
    own_fails at
    (λ noted. note_branches tests noted sc then λ all. note_block block sc then λ b. Ok (conditional_else at all b))
    (test_fails sc tests d f next h)
expression_fails sc s e mode f (of_case_of at d all) h =
    own_fails at (λ a. note_arms all sc then λ noted. Ok (case_of at a noted))
    (bind_fails (λ (a : NotedExpression). judge_union sc (type_of a)
    >>= λ cases. judge_heads sc cases (heads_of all) >>= λ judged. Ok a) h)
expression_fails sc s e mode f (of_while at d block) h =
    own_fails at (λ a. note_block block sc then λ b. Ok (while_loop at a b)) h
expression_fails sc s e mode f (of_for at name first last block d own pairs) h =
    own_fails at
    (λ y. note_block block (with_variable (fixed_variable name.name (type_of y.0)) sc)
    then λ b. Ok (for_loop at name y.0 y.1 b))
    (bind_fails
    (λ (y : NotedExpression × NotedExpression). of_one_type y.0 y.1
    (check (is_integer (type_of y.0)) (shape integer_wanted) (Ok y)))
    (pair_fails sc first last d None own f pairs h))
expression_fails sc s e mode f (of_call at d) h =
    own_fails at (λ a. Ok (discard at a))
    (bind_fails (λ (a : NotedExpression). check (is_free_in sc (type_of a)) (not_free (type_of a)) (Ok a)) h)
expression_fails sc s e mode f (of_return at d) h = own_fails at (λ a. Ok (return_of at a)) h

breaks_fail : (sc : Scope) (s : PlainStatement) (f : Fault) → StatementBreaks sc s f
    → note_statement s sc ≡ Err (fault_at (place_of s) f)
breaks_fail sc s f (a_declared_type at binding name t d reason is) =
    own_fails at (λ a. Ok (declare at binding name t a))
    (bind_fails (λ (u : Meaning). note sc d (Some u)) (ap outcome_noted is))
breaks_fail sc s f (a_destructuring at binds d g x is h) =
    own_fails at (λ a. Ok (destructure at binds a))
    (bind_found (λ (a : NotedExpression). known_or (shape record_wanted) (sc.outside.fields (type_of a))
    >>= λ fields. judge_binds sc fields binds >>= λ bound. Ok a) (given sc d x None is)
    ∙ first_fails
    (known_or (shape record_wanted) (sc.outside.fields (type_of x))
    >>= λ fields. judge_binds sc fields binds >>= λ bound. Ok x)
    (of_taken sc binds (type_of x)) g (taken_tells sc binds x) h)
breaks_fail sc s f (an_assigned_place at x path d g h) =
    own_fails at (λ a. Ok (assign at x path a))
    (bind_fails (λ (u : Meaning). note sc d (Some u))
    (first_fails (judge_assigned sc x.name path) (of_assigned sc x.name path) g (assigned_tells sc x.name path) h))
breaks_fail sc s f (a_place_behind at r path d g h) =
    own_fails at (λ a. Ok (assign_through at r path a))
    (bind_fails (λ (u : Meaning). note sc d (Some u))
    (first_fails (judge_put sc r.name path) (of_put sc r.name path) g (put_tells sc r.name path) h))
breaks_fail sc s f (a_case at d all g x is h) =
    own_fails at (λ a. note_arms all sc then λ noted. Ok (case_of at a noted))
    (bind_found (λ (a : NotedExpression). judge_union sc (type_of a)
    >>= λ cases. judge_heads sc cases (heads_of all) >>= λ judged. Ok a) (given sc d x None is)
    ∙ first_fails
    (judge_union sc (type_of x) >>= λ cases. judge_heads sc cases (heads_of all) >>= λ judged. Ok x)
    (of_case sc (heads_of all) (type_of x)) g (case_tells sc (heads_of all) x) h)
breaks_fail sc s f (bounds at name first last block g x y pair h) =
    let z : NotedExpression × NotedExpression = (x, y) in
    own_fails at
    (λ w. note_block block (with_variable (fixed_variable name.name (type_of w.0)) sc)
    then λ b. Ok (for_loop at name w.0 w.1 b))
    (bind_found
    (λ (w : NotedExpression × NotedExpression). of_one_type w.0 w.1
    (check (is_integer (type_of w.0)) (shape integer_wanted) (Ok w)))
    (pair_given sc first last None x y pair)
    ∙ first_fails (of_one_type x y (check (is_integer (type_of x)) (shape integer_wanted) (Ok z))) (of_bounds x y) g
    (bounds_tell sc z) h)
breaks_fail sc s f (a_borrow at kind x r region block stop g h) =
    own_fails at
    (λ of. note_block block (with_reference r.name region.name (borrow_type (mode_for kind) region.name of) sc)
    then λ b. Ok (borrow_in at kind x r region b stop))
    (first_fails (judge_lent sc (mode_for kind) x.name) (of_lent sc (mode_for kind) x.name (λ of. [])) g
    (only_lent_tells sc (mode_for kind) x.name) h)
breaks_fail sc s f (a_typed_borrow at r t m x block stop g h) =
    own_fails at
    (λ y. note_block block (with_reference r.name y.0 y.1 sc) then λ b. Ok (borrow_typed at r t m x b stop))
    (first_fails (judge_borrow sc t m x.name) (of_borrow_into sc t m x.name) g (borrow_tells sc t m x.name) h)
breaks_fail sc s f (a_result at d g x is h) =
    own_fails at (λ a. Ok (discard at a))
    (bind_found (λ (a : NotedExpression). check (is_free_in sc (type_of a)) (not_free (type_of a)) (Ok a))
    (given sc d x None is)
    ∙ first_fails (check (is_free_in sc (type_of x)) (not_free (type_of x)) (Ok x)) (of_free sc (type_of x)) g
    (result_tells sc x) h)

own_fault_fails : (sc : Scope) (s : PlainStatement) (f : Fault) → OwnFault sc s f
    → note_statement s sc ≡ Err (fault_at (place_of s) f)
own_fault_fails sc s f (of_an_expression t e mode g next first) =
    expression_fails sc t e mode g next (fault_fails sc e mode g first)
own_fault_fails sc s f (of_the_statement t g h) = breaks_fail sc t g h

-- ---- blocks in statements

pub block_given : (ss : PlainStatements) (sc : Scope) (b : NotedStatements) → BlockNoted ss sc b
    → note_block ss sc ≡ Ok b
block_given ss sc b h = ap (λ x. note_block x sc) (sym h.1) ∙ block_found b sc h.0

statement_given : (s : PlainStatement) (sc : Scope) (a : NotedStatement) → StatementNoted s sc a
    → note_statement s sc ≡ Ok a
statement_given s sc a h = ap (λ x. note_statement x sc) (sym h.1) ∙ statement_found a sc h.0

-- there are as many noted tests as tests
abbrev Even : PlainBranches → List NotedExpression → Type 0
Even no_branches [] = Unit {0}
Even (branches e block rest) (a ∷ noted) = Even rest noted
Even no_branches (a ∷ noted) = ⊥
Even (branches e block rest) [] = ⊥

tests_even : (sc : Scope) (tests : PlainBranches) (noted : List NotedExpression)
    → note_tests sc tests ≡ Ok noted → Even tests noted
tests_even sc no_branches noted h = subst (Even no_branches) (ok_same [] noted h) tt
tests_even sc (branches e block rest) noted h =
    let one = bind_ok (note_test sc e)
    (λ (a : NotedExpression). note_tests sc rest >>= λ (all : List NotedExpression). Ok (a ∷ all)) noted h in
    let more = bind_ok (note_tests sc rest) (λ (all : List NotedExpression). Ok (one.0 ∷ all)) noted one.2 in
    subst (Even (branches e block rest)) (ok_same (one.0 ∷ more.0) noted more.2)
    (tests_even sc rest more.0 more.1)

branches_given : (sc : Scope) (tests : PlainBranches) (noted : List NotedExpression) → Even tests noted
    → BlocksNoted sc tests → (all : NotedBranches) × (note_branches tests noted sc ≡ Ok all)
branches_given sc no_branches noted even g = (no_branches, refl)
branches_given sc (branches e block rest) (a ∷ noted) even g =
    let more = branches_given sc rest noted even g.1 in (
      branches a g.0.0 more.0,
      then_found (λ b. note_branches rest noted sc then λ all. Ok (branches a b all))
          (block_given block sc g.0.0 g.0.1)
          ∙ then_found (λ all. Ok (branches a g.0.0 all)) more.1,
    )
branches_given sc (branches e block rest) [] even g = absurd even

branch_fails : (sc : Scope) (tests : PlainBranches) (noted : List NotedExpression) (d : PlainStatements)
    (f : StatementFault) → Even tests noted → BehindTest sc tests d → note_block d sc ≡ Err f
    → note_branches tests noted sc ≡ Err f
branch_fails sc tests (a ∷ noted) d f even (behind_this_test e block rest) h =
    then_fails (λ b. note_branches rest noted sc then λ all. Ok (branches a b all)) h
branch_fails sc tests (a ∷ noted) d f even (behind_a_later_test e block g rest b good next) h =
    then_found (λ c. note_branches rest noted sc then λ all. Ok (branches a c all)) (block_given block sc b good)
    ∙ then_fails (λ all. Ok (branches a b all)) (branch_fails sc rest noted g f even next h)
branch_fails sc tests [] d f even (behind_this_test e block rest) h = absurd even
branch_fails sc tests [] d f even (behind_a_later_test e block g rest b good next) h = absurd even

branches_are : (sc : Scope) (tests : PlainBranches) (noted : List NotedExpression) (all : NotedBranches)
    → Even tests noted → note_branches tests noted sc ≡ Ok all → BlocksNoted sc tests
branches_are sc no_branches noted all even h = tt
branches_are sc (branches e block rest) (a ∷ noted) all even h =
    let one = then_gave (note_block block sc) (λ b. note_branches rest noted sc then λ more. Ok (branches a b more))
    all h in
    let more = then_gave (note_branches rest noted sc) (λ x. Ok (branches a one.0 x)) all one.2 in
    ((one.0, block_sound block sc one.0 one.1), branches_are sc rest noted more.0 even more.1)
branches_are sc (branches e block rest) [] all even h = absurd even

arm_fails : (sc : Scope) (all : PlainArms) (d : PlainStatements) (inner : Scope) (f : StatementFault)
    → InArm sc all d inner → note_block d inner ≡ Err f → note_arms all sc ≡ Err f
arm_fails sc all d inner f (in_this_arm at n binds block rest) h =
    then_fails (λ b. note_arms rest sc then λ more. Ok (arms at n binds b more)) h
arm_fails sc all d inner f (in_a_later_arm at n binds block g rest deep b good next) h =
    then_found (λ c. note_arms rest sc then λ more. Ok (arms at n binds c more))
    (block_given block (with_bound binds sc) b good)
    ∙ then_fails (λ more. Ok (arms at n binds b more)) (arm_fails sc rest g deep f next h)

block_fails : (sc : Scope) (s : PlainStatement) (d : PlainStatements) (inner : Scope) (f : StatementFault)
    → BlockNext sc s d inner → note_block d inner ≡ Err f → note_statement s sc ≡ Err f
block_fails sc s d inner f (behind_a_test at tests g noted next) h =
    let k = tests_given sc tests noted in
    own_found at (λ all. note_branches tests all sc then λ more. Ok (conditional at more)) k.1
    ∙ then_fails (λ more. Ok (conditional at more))
    (branch_fails sc tests k.0 g f (tests_even sc tests k.0 k.1) next h)
block_fails sc s d inner f (behind_a_test_with_else at tests block g noted next) h =
    let k = tests_given sc tests noted in
    own_found at
    (λ all. note_branches tests all sc then λ more. note_block block sc then λ b. Ok (conditional_else at more b))
    k.1
    ∙ then_fails (λ more. note_block block sc then λ b. Ok (conditional_else at more b))
    (branch_fails sc tests k.0 g f (tests_even sc tests k.0 k.1) next h)
block_fails sc s d inner f (behind_else at tests block noted blocks) h =
    let k = tests_given sc tests noted in
    let all = branches_given sc tests k.0 (tests_even sc tests k.0 k.1) blocks in
    own_found at
    (λ x. note_branches tests x sc then λ more. note_block block sc then λ b. Ok (conditional_else at more b)) k.1
    ∙ (then_found (λ more. note_block block sc then λ b. Ok (conditional_else at more b)) all.1
    ∙ then_fails (λ b. Ok (conditional_else at all.0 b)) h)
block_fails sc s d inner f (in_an_arm at e all g deep x good is next) h =
    own_found at (λ a. note_arms all sc then λ noted. Ok (case_of at a noted))
    (ap (λ y. note_case sc y (heads_of all)) (sym is) ∙ case_found sc x (heads_of all) good)
    ∙ then_fails (λ noted. Ok (case_of at x noted)) (arm_fails sc all g deep f next h)
block_fails sc s d inner f (in_a_while at e block x is) h =
    own_found at (λ a. note_block block sc then λ b. Ok (while_loop at a b)) (given sc e x (Some mean.truth) is)
    ∙ then_fails (λ b. Ok (while_loop at x b)) h
block_fails sc s d inner f (in_a_for at name first last block x y good is are) h =
    own_found at
    (λ w. note_block block (with_variable (fixed_variable name.name (type_of w.0)) sc)
    then λ b. Ok (for_loop at name w.0 w.1 b))
    (ap (λ e. note_bounds sc e last) (sym is)
    ∙ (ap (note_bounds sc (erase x)) (sym are) ∙ bounds_found sc x y good))
    ∙ then_fails (λ b. Ok (for_loop at name x y b)) h
block_fails sc s d inner f (in_a_borrow at kind x r region block stop of lends) h =
    own_found at
    (λ t. note_block block (with_reference r.name region.name (borrow_type (mode_for kind) region.name t) sc)
    then λ b. Ok (borrow_in at kind x r region b stop))
    (lent_found sc (mode_for kind) x.name of lends)
    ∙ then_fails (λ b. Ok (borrow_in at kind x r region b stop)) h
block_fails sc s d inner f (in_a_typed_borrow at r t mode x block stop region of good) h =
    own_found at
    (λ y. note_block block (with_reference r.name y.0 y.1 sc) then λ b. Ok (borrow_typed at r t mode x b stop))
    (borrow_found sc t mode x.name region of good)
    ∙ then_fails (λ b. Ok (borrow_typed at r t mode x b stop)) h

mutual
  pub fault_of_fails : (s : PlainStatement) (sc : Scope) (f : StatementFault) → FaultOf s sc f
      → note_statement s sc ≡ Err f
  fault_of_fails s sc f (its_own t c g h) = own_fault_fails c t g h
  fault_of_fails s sc f (of_a_block t d c inner g next h) =
      block_fails c t d inner g next (fault_in_fails d inner g h)

  pub fault_in_fails : (ss : PlainStatements) (sc : Scope) (f : StatementFault) → FaultIn ss sc f
      → note_block ss sc ≡ Err f
  fault_in_fails ss sc f (of_the_first s rest c g h) =
      then_fails
      (λ a. judge_next (returns s) rest then λ may. note_block rest (after s c) then λ all. Ok (statements a all))
      (fault_of_fails s c g h)
  fault_in_fails ss sc f (behind_return s next rest c a noted returned) =
      then_found
      (λ x. judge_next (returns s) (statements next rest)
      then λ may. note_block (statements next rest) (after s c) then λ all. Ok (statements x all))
      (statement_given s c a noted)
      ∙ then_fails (λ may. note_block (statements next rest) (after s c) then λ all. Ok (statements a all))
      (ap (λ b. judge_next b (statements next rest)) returned)
  fault_in_fails ss sc f (of_the_rest s rest c a g noted goes_on h) =
      then_found
      (λ x. judge_next (returns s) rest then λ may. note_block rest (after s c) then λ all. Ok (statements x all))
      (statement_given s c a noted)
      ∙ (then_found (λ may. note_block rest (after s c) then λ all. Ok (statements a all))
      (ap (λ b. judge_next b rest) goes_on)
      ∙ then_fails (λ all. Ok (statements a all)) (fault_in_fails rest (after s c) g h))

-- ---- from the search to the first fault

with_own : {A : Type 0} (s : PlainStatement) (sc : Scope) (f : StatementFault) (r : Noting A)
    (next : A → Judged NotedStatement) → ((g : Fault) → r ≡ Err g → OwnFault sc s g)
    → ((x : A) → r ≡ Ok x → next x ≡ Err f → FaultOf s sc f) → (placed (place_of s) r then next) ≡ Err f
    → FaultOf s sc f
with_own {A} s sc f r next own more h = by (then_failed (placed (place_of s) r) next f h)
  where
    by : (placed (place_of s) r ≡ Err f) ⊎ ((x : A) × (placed (place_of s) r ≡ Ok x) × (next x ≡ Err f))
        → FaultOf s sc f
    by (inl failed) =
        let k = placed_failed (place_of s) r f failed in
        subst (λ g. FaultOf s sc g) (sym k.2) (its_own s sc k.0 (own k.0 k.1))
    by (inr (x, gave, failed)) = more x (placed_gave (place_of s) r x gave) failed

with_own_alone : {A : Type 0} (s : PlainStatement) (sc : Scope) (f : StatementFault) (r : Noting A)
    (made : A → NotedStatement) → ((g : Fault) → r ≡ Err g → OwnFault sc s g)
    → (placed (place_of s) r then λ x. Ok (made x)) ≡ Err f → FaultOf s sc f
with_own_alone s sc f r made own h =
    with_own s sc f r (λ x. Ok (made x)) own (λ x gave failed. absurd (never (made x) failed)) h
  where
    never : (a : NotedStatement) → ◌≡◌ {A = Judged NotedStatement} (Ok a) (Err f) → ⊥
    never a h = cc

goes_on : (b : Bool) (rest : PlainStatements) (sc : Scope) (u : Unit {0}) (f : StatementFault)
    → judge_next b rest ≡ Ok u → note_block rest sc ≡ Err f → b ≡ false
goes_on false rest sc u f may h = refl
goes_on true (statements s more) sc u f may h = absurd cc
goes_on true no_statements sc u f may h = absurd cc

-- the block that fails behind tests, and in arms
abbrev BranchFails : PlainBranches → Scope → StatementFault → Type 0
BranchFails tests sc f = (d : PlainStatements) × BehindTest sc tests d × FaultIn d sc f

abbrev ArmFails : PlainArms → Scope → StatementFault → Type 0
ArmFails all sc f = (d : PlainStatements) × (inner : Scope) × InArm sc all d inner × FaultIn d inner f

behind_first : (s : PlainStatement) (rest : PlainStatements) (sc : Scope) (f : StatementFault)
    (a : NotedStatement) → StatementNoted s sc a
    → (note_block rest (after s sc) ≡ Err f → FaultIn rest (after s sc) f)
    → (judge_next (returns s) rest ≡ Err f)
    ⊎ ((u : Unit {0}) × (judge_next (returns s) rest ≡ Ok u)
    × ((note_block rest (after s sc) then λ all. Ok (statements a all)) ≡ Err f))
    → FaultIn (statements s rest) sc f
behind_first s rest sc f a noted more (inl failed) =
    let k = next_failed (returns s) rest f failed in
    subst (λ r. FaultIn (statements s r) sc f) (sym k.2)
    (subst (λ g. FaultIn (statements s (statements k.0 k.1)) sc g) (sym k.4)
    (behind_return s k.0 k.1 sc a noted k.3))
behind_first s rest sc f a noted more (inr (u, may, failed)) =
    let h = only_then (note_block rest (after s sc)) (λ all. statements a all) f failed in
    of_the_rest s rest sc a f noted (goes_on (returns s) rest (after s sc) u f may h) (more h)

from_first : (s : PlainStatement) (rest : PlainStatements) (sc : Scope) (f : StatementFault)
    → (note_statement s sc ≡ Err f → FaultOf s sc f)
    → (note_block rest (after s sc) ≡ Err f → FaultIn rest (after s sc) f)
    → (note_statement s sc ≡ Err f)
    ⊎ ((a : NotedStatement) × (note_statement s sc ≡ Ok a)
    × ((judge_next (returns s) rest then λ may. note_block rest (after s sc) then λ all. Ok (statements a all))
    ≡ Err f))
    → FaultIn (statements s rest) sc f
from_first s rest sc f one more (inl failed) = of_the_first s rest sc f (one failed)
from_first s rest sc f one more (inr (a, noted, failed)) =
    behind_first s rest sc f a (statement_sound s sc a noted) more
    (then_failed (judge_next (returns s) rest)
    (λ may. note_block rest (after s sc) then λ all. Ok (statements a all)) f failed)

from_branch : (e : PlainExpression) (block : PlainStatements) (rest : PlainBranches) (a : NotedExpression)
    (noted : List NotedExpression) (sc : Scope) (f : StatementFault)
    → (note_block block sc ≡ Err f → FaultIn block sc f)
    → (note_branches rest noted sc ≡ Err f → BranchFails rest sc f)
    → (note_block block sc ≡ Err f)
    ⊎ ((b : NotedStatements) × (note_block block sc ≡ Ok b)
    × ((note_branches rest noted sc then λ all. Ok (branches a b all)) ≡ Err f))
    → BranchFails (branches e block rest) sc f
from_branch e block rest a noted sc f one more (inl failed) =
    (block, behind_this_test e block rest, one failed)
from_branch e block rest a noted sc f one more (inr (b, gave, failed)) =
    let k = more (only_then (note_branches rest noted sc) (λ all. branches a b all) f failed) in
    (k.0, behind_a_later_test e block k.0 rest b (block_sound block sc b gave) k.1, k.2)

from_arm : (at : Pos) (n : Placed Bytes) (binds : List (Bound Bytes)) (block : PlainStatements)
    (rest : PlainArms) (sc : Scope) (f : StatementFault)
    → (note_block block (with_bound binds sc) ≡ Err f → FaultIn block (with_bound binds sc) f)
    → (note_arms rest sc ≡ Err f → ArmFails rest sc f)
    → (note_block block (with_bound binds sc) ≡ Err f)
    ⊎ ((b : NotedStatements) × (note_block block (with_bound binds sc) ≡ Ok b)
    × ((note_arms rest sc then λ all. Ok (arms at n binds b all)) ≡ Err f))
    → ArmFails (arms at n binds block rest) sc f
from_arm at n binds block rest sc f one more (inl failed) =
    (block, with_bound binds sc, in_this_arm at n binds block rest, one failed)
from_arm at n binds block rest sc f one more (inr (b, gave, failed)) =
    let k = more (only_then (note_arms rest sc) (λ all. arms at n binds b all) f failed) in (
      k.0,
      k.1,
      in_a_later_arm at n binds block k.0 rest k.1 b (block_sound block (with_bound binds sc) b gave) k.2,
      k.3,
    )

-- a conditional with `else`, behind its noted tests
behind_tests : (at : Pos) (tests : PlainBranches) (block : PlainStatements) (noted : List NotedExpression)
    (sc : Scope) (f : StatementFault) → note_tests sc tests ≡ Ok noted
    → (note_branches tests noted sc ≡ Err f → BranchFails tests sc f)
    → (note_block block sc ≡ Err f → FaultIn block sc f)
    → (note_branches tests noted sc ≡ Err f)
    ⊎ ((all : NotedBranches) × (note_branches tests noted sc ≡ Ok all)
    × ((note_block block sc then λ b. Ok (conditional_else at all b)) ≡ Err f))
    → FaultOf (conditional_else at tests block) sc f
behind_tests at tests block noted sc f gave of_branches of_else (inl failed) =
    let k = of_branches failed in
    of_a_block (conditional_else at tests block) k.0 sc sc f
    (behind_a_test_with_else at tests block k.0 (tests_are sc tests noted gave) k.1) k.2
behind_tests at tests block noted sc f gave of_branches of_else (inr (all, are, failed)) =
    of_a_block (conditional_else at tests block) block sc sc f
    (behind_else at tests block (tests_are sc tests noted gave)
    (branches_are sc tests noted all (tests_even sc tests noted gave) are))
    (of_else (only_then (note_block block sc) (λ b. conditional_else at all b) f failed))

mutual
  pub statement_tells : (s : PlainStatement) (sc : Scope) (f : StatementFault) → note_statement s sc ≡ Err f
      → FaultOf s sc f
  statement_tells (skip at) sc f h = absurd cc
  statement_tells (declare at binding name t e) sc f h =
      with_own_alone (declare at binding name t e) sc f (note_declared sc t e) (λ a. declare at binding name t a)
      (λ g k. declared_failed sc at binding name t e g k) h
  statement_tells (destructure at binds e) sc f h =
      with_own_alone (destructure at binds e) sc f (note_taken sc binds e) (λ a. destructure at binds a)
      (λ g k. taken_failed sc at binds e g k) h
  statement_tells (assign at x path e) sc f h =
      with_own_alone (assign at x path e) sc f (note_assigned sc x.name path e) (λ a. assign at x path a)
      (λ g k. assigned_failed sc at x path e g k) h
  statement_tells (assign_through at r path e) sc f h =
      with_own_alone (assign_through at r path e) sc f (note_put sc r.name path e)
      (λ a. assign_through at r path a) (λ g k. put_failed sc at r path e g k) h
  statement_tells (conditional at tests) sc f h =
      with_own (conditional at tests) sc f (note_tests sc tests)
      (λ noted. note_branches tests noted sc then λ all. Ok (conditional at all))
      (λ g k. let t = tests_failed sc tests g k in
      of_an_expression (conditional at tests) t.0 (Some mean.truth) g (of_tests at tests t.0 t.1) t.2)
      (λ noted gave failed.
      let t = branches_tell tests noted sc f (tests_even sc tests noted gave)
      (only_then (note_branches tests noted sc) (λ all. conditional at all) f failed) in
      of_a_block (conditional at tests) t.0 sc sc f
      (behind_a_test at tests t.0 (tests_are sc tests noted gave) t.1) t.2)
      h
  statement_tells (conditional_else at tests block) sc f h =
      with_own (conditional_else at tests block) sc f (note_tests sc tests)
      (λ noted. note_branches tests noted sc
      then λ all. note_block block sc then λ b. Ok (conditional_else at all b))
      (λ g k. let t = tests_failed sc tests g k in
      of_an_expression (conditional_else at tests block) t.0 (Some mean.truth) g
      (of_tests_with_else at tests block t.0 t.1) t.2)
      (λ noted gave failed.
      behind_tests at tests block noted sc f gave
      (branches_tell tests noted sc f (tests_even sc tests noted gave)) (block_tells block sc f)
      (then_failed (note_branches tests noted sc)
      (λ all. note_block block sc then λ b. Ok (conditional_else at all b)) f failed))
      h
  statement_tells (case_of at e all) sc f h =
      with_own (case_of at e all) sc f (note_case sc e (heads_of all))
      (λ a. note_arms all sc then λ noted. Ok (case_of at a noted))
      (λ g k. case_failed sc at e all g k)
      (λ x gave failed.
      let t = arms_tell all sc f (only_then (note_arms all sc) (λ noted. case_of at x noted) f failed) in
      let good = case_sound sc (heads_of all) e x gave in
      of_a_block (case_of at e all) t.0 sc t.1 f (in_an_arm at e all t.0 t.1 x good.0 good.1 t.2) t.3)
      h
  statement_tells (while_loop at e block) sc f h =
      with_own (while_loop at e block) sc f (note_test sc e)
      (λ a. note_block block sc then λ b. Ok (while_loop at a b))
      (λ g k. then_statement sc (while_loop at e block) e (Some mean.truth) g (of_while at e block) k)
      (λ x gave failed.
      of_a_block (while_loop at e block) block sc sc f
      (in_a_while at e block x (sound sc e (Some mean.truth) x gave))
      (block_tells block sc f (only_then (note_block block sc) (λ b. while_loop at x b) f failed)))
      h
  statement_tells (for_loop at name first last block) sc f h =
      with_own (for_loop at name first last block) sc f (note_bounds sc first last)
      (λ y. note_block block (with_variable (fixed_variable name.name (type_of y.0)) sc)
      then λ b. Ok (for_loop at name y.0 y.1 b))
      (λ g k. bounds_failed sc at name first last block g k)
      (λ y gave failed.
      let inner : Scope = with_variable (fixed_variable name.name (type_of y.0)) sc in
      let good = bounds_sound sc first last y gave in
      of_a_block (for_loop at name first last block) block sc inner f
      (in_a_for at name first last block y.0 y.1 good.0 good.1 good.2)
      (block_tells block inner f (only_then (note_block block inner) (λ b. for_loop at name y.0 y.1 b) f failed)))
      h
  statement_tells (borrow_in at kind x r region block stop) sc f h =
      with_own (borrow_in at kind x r region block stop) sc f (judge_lent sc (mode_for kind) x.name)
      (λ of. note_block block
      (with_reference r.name region.name (borrow_type (mode_for kind) region.name of) sc)
      then λ b. Ok (borrow_in at kind x r region b stop))
      (λ g k. of_the_statement (borrow_in at kind x r region block stop) g
      (a_borrow at kind x r region block stop g
      (fails_first (judge_lent sc (mode_for kind) x.name) (of_lent sc (mode_for kind) x.name (λ of. [])) g
      (only_lent_tells sc (mode_for kind) x.name) k)))
      (λ of gave failed.
      let inner : Scope = with_reference r.name region.name (borrow_type (mode_for kind) region.name of) sc in
      of_a_block (borrow_in at kind x r region block stop) block sc inner f
      (in_a_borrow at kind x r region block stop of (lent_sound sc (mode_for kind) x.name of gave))
      (block_tells block inner f
      (only_then (note_block block inner) (λ b. borrow_in at kind x r region b stop) f failed)))
      h
  statement_tells (borrow_typed at r t mode x block stop) sc f h =
      with_own (borrow_typed at r t mode x block stop) sc f (judge_borrow sc t mode x.name)
      (λ y. note_block block (with_reference r.name y.0 y.1 sc)
      then λ b. Ok (borrow_typed at r t mode x b stop))
      (λ g k. of_the_statement (borrow_typed at r t mode x block stop) g
      (a_typed_borrow at r t mode x block stop g
      (fails_first (judge_borrow sc t mode x.name) (of_borrow_into sc t mode x.name) g
      (borrow_tells sc t mode x.name) k)))
      (λ y gave failed.
      let inner : Scope = with_reference r.name y.0 y.1 sc in
      of_a_block (borrow_typed at r t mode x block stop) block sc inner f
      (in_a_typed_borrow at r t mode x block stop y.0 y.1 (borrow_sound sc t mode x.name y gave))
      (block_tells block inner f
      (only_then (note_block block inner) (λ b. borrow_typed at r t mode x b stop) f failed)))
      h
  statement_tells (discard at e) sc f h =
      with_own_alone (discard at e) sc f (note_discarded sc e) (λ a. discard at a)
      (λ g k. result_failed sc at e g k) h
  statement_tells (return_of at e) sc f h =
      with_own_alone (return_of at e) sc f (note sc e (Some sc.result)) (λ a. return_of at a)
      (λ g k. then_statement sc (return_of at e) e (Some sc.result) g (of_return at e) k) h

  pub block_tells : (ss : PlainStatements) (sc : Scope) (f : StatementFault) → note_block ss sc ≡ Err f
      → FaultIn ss sc f
  block_tells no_statements sc f h = absurd cc
  block_tells (statements s rest) sc f h =
      from_first s rest sc f (statement_tells s sc f) (block_tells rest (after s sc) f)
      (then_failed (note_statement s sc)
      (λ a. judge_next (returns s) rest then λ may. note_block rest (after s sc) then λ all. Ok (statements a all))
      f h)

  branches_tell : (tests : PlainBranches) (noted : List NotedExpression) (sc : Scope) (f : StatementFault)
      → Even tests noted → note_branches tests noted sc ≡ Err f → BranchFails tests sc f
  branches_tell no_branches noted sc f even h = absurd cc
  branches_tell (branches e block rest) [] sc f even h = absurd even
  branches_tell (branches e block rest) (a ∷ noted) sc f even h =
      from_branch e block rest a noted sc f (block_tells block sc f) (branches_tell rest noted sc f even)
      (then_failed (note_block block sc)
      (λ b. note_branches rest noted sc then λ all. Ok (branches a b all)) f h)

  arms_tell : (all : PlainArms) (sc : Scope) (f : StatementFault) → note_arms all sc ≡ Err f
      → ArmFails all sc f
  arms_tell no_arms sc f h = absurd cc
  arms_tell (arms at n binds block rest) sc f h =
      from_arm at n binds block rest sc f (block_tells block (with_bound binds sc) f) (arms_tell rest sc f)
      (then_failed (note_block block (with_bound binds sc))
      (λ b. note_arms rest sc then λ more. Ok (arms at n binds b more)) f h)
