-- One turn of each walk: over the statements of a block, over branches and over arms.
use Rattle.std.proofs.Common.{arith, ◌≡◌, ◌++◌, ◌∷◌, ◌<◌, ◌≤◌, ◌+◌, ◌-◌, [], ℕ, List, Err, Ok, ap}
use Rattle.std.proofs.Common.{append_assoc, sym, ◌∙◌, drop, get_or, length, map, refl, take}
use Rattle.std.proofs.lemmas.List.{append-nil, at_drop_all, length-drop, map-append, take_all}
use Rattle.std.specs.Global.{Global}
use Rattle.std.specs.declared.boxed.Box.{Box}
use Rattle.au_base.specs.declared.places.Pos.{Pos}
use Rattle.au_typing.specs.DerivationFaults.{Judged, ◌then◌, StatementFault}
use Rattle.au_typing.specs.InScope.{after, with_bound}
use Rattle.au_typing.specs.Returns.{returns}
use Rattle.au_typing.specs.DerivationSearch.{judge_next, note_arms, note_block, note_branches, note_statement}
use Rattle.au_typing.specs.DerivationSearch.{note_test, note_tests}
use Rattle.au_typing.specs.Trees.{NotedArms, NotedBranches, NotedStatement, NotedStatements}
use Rattle.au_sights.specs.contracts.noted.NotedPhase.TheImpl.{ghosts as noted}
use Rattle.au_noting_statements.specs.Noted.{all_boxed, boxed}
use Rattle.au_noting_expressions.specs.Said.{NotedCode}
use Rattle.au_typing.specs.Scopes.{Scope}
use Rattle.au_syntax.specs.contracts.parsed.ParsedPhase.TheImpl.{ghosts as parsed}
use Rattle.au_syntax.specs.Names.{Placed}
use Rattle.au_syntax.specs.Plain.{Bytes, PlainArms, PlainBranches, PlainStatement, PlainStatements}
use Rattle.au_syntax.specs.Statements.{statements, branches, arms}
use Rattle.au_syntax.specs.Types.{Bound}
use Rattle.au_syntax.specs.Views.{arm_all, block, bound, branch_all, expression, placed, statement, statement_all}
use Rattle.au_typing.specs.Faults.{Noting, ◌>>=◌, Fault}
use Rattle.au_typing.specs.Notes.{NotedExpression}
use Rattle.au_noting_statements.proofs.Depths.{ParsedStmt, ParsedBranch, ParsedArm}
use Rattle.au_noting_statements.proofs.Fronts.{NotedStmt, NotedBranch, NotedArm, fronted, front_grows}
use Rattle.au_noting_statements.proofs.Fronts.{left_at, statements_before, statements_pushed}
use Rattle.au_noting_statements.proofs.Fronts.{statements_whole, branches_before, branches_pushed}
use Rattle.au_noting_statements.proofs.Fronts.{branches_whole, arms_before, arms_pushed, arms_whole}

-- what is left from a place on, as far as it goes
pub rest_is : {A : Type 0} (xs : List A) (k : ℕ) → drop k xs ≡ take (length xs - k) (drop k xs)
rest_is xs k = sym (take_all (length xs - k) (drop k xs) (omega (arith, length-drop k xs)))

-- ---- statements

-- the statements behind one that is noted, and that one before them
abbrev pub further : PlainStatement → PlainStatements → Scope → NotedStatement → Judged NotedStatements
further s rest sc a = note_block rest (after s sc) then λ all. Ok (statements a all)

-- what follows a statement that is noted
abbrev pub behind : PlainStatement → PlainStatements → Scope → NotedStatement → Judged NotedStatements
behind s rest sc a = judge_next (returns s) rest then λ may. further s rest sc a

pub block_goes_on : (s : PlainStatement) (rest : PlainStatements) (sc now : Scope) (a : NotedStatement) →
    note_statement s sc ≡ Ok a → judge_next (returns s) rest ≡ Ok tt → now ≡ after s sc →
    (note_block rest now then λ all. Ok (statements a all)) ≡ note_block (statements s rest) sc
block_goes_on s rest sc now a one next is =
    ap (λ (x : Scope). note_block rest x then λ all. Ok (statements a all)) is
    ∙ sym (ap (λ (j : Judged (Unit {0})). j then λ may. further s rest sc a) next)
    ∙ sym (ap (λ (j : Judged NotedStatement). j then behind s rest sc) one)

pub block_stops : (s : PlainStatement) (rest : PlainStatements) (sc : Scope) (f : StatementFault) →
    note_statement s sc ≡ Err f → note_block (statements s rest) sc ≡ Err f
block_stops s rest sc f h = ap (λ (j : Judged NotedStatement). j then behind s rest sc) h

pub block_stops_behind : (s : PlainStatement) (rest : PlainStatements) (sc : Scope) (a : NotedStatement)
    (f : StatementFault) →
    note_statement s sc ≡ Ok a → judge_next (returns s) rest ≡ Err f → note_block (statements s rest) sc ≡ Err f
block_stops_behind s rest sc a f one h =
    ap (λ (j : Judged NotedStatement). j then behind s rest sc) one
    ∙ ap (λ (j : Judged (Unit {0})). j then λ may. further s rest sc a) h

module _ (made : List NotedStmt) (xs : List ParsedStmt) (i : ℕ) (sc : Scope) (whole : Judged NotedStatements)
    (so_far : fronted (statements_before made) (note_block (statement_all parsed (drop i xs)) sc) ≡ whole) where
  -- all statements are noted
  pub block_ends : length xs ≤ i → whole ≡ Ok (statement_all noted made)
  block_ends ends =
      sym so_far
      ∙ at_drop_all (λ (left : List ParsedStmt). fronted (statements_before made)
      (note_block (statement_all parsed left) sc)) xs i ends
      ∙ ap Ok (statements_whole made)

  module _ (x : ParsedStmt) (within : i < length xs) (is : x ≡ get_or xs i x) where
    -- what is left, from this statement on
    block_at : whole ≡ fronted (statements_before made)
        (note_block (statements (statement parsed x) (statement_all parsed (drop (i + 1) xs))) sc)
    block_at =
        sym so_far
        ∙ left_at (λ (left : List ParsedStmt). fronted (statements_before made)
        (note_block (statement_all parsed left) sc)) xs i x within is

    -- the statement is refused
    pub block_turn_stops : (f : StatementFault) → note_statement (statement parsed x) sc ≡ Err f → whole ≡ Err f
    block_turn_stops f h =
        block_at ∙ ap (fronted (statements_before made))
        (block_stops (statement parsed x) (statement_all parsed (drop (i + 1) xs)) sc f h)

    -- what follows the statement is refused
    pub block_turn_stops_behind : (a : NotedStatement) (f : StatementFault) →
        note_statement (statement parsed x) sc ≡ Ok a →
        judge_next (returns (statement parsed x)) (statement_all parsed (drop (i + 1) xs)) ≡ Err f → whole ≡ Err f
    block_turn_stops_behind a f one h =
        block_at ∙ ap (fronted (statements_before made))
        (block_stops_behind (statement parsed x) (statement_all parsed (drop (i + 1) xs)) sc a f one h)

    -- the statement is noted, and others may follow
    pub block_turn : (pushed : List NotedStmt) (a : NotedStmt) (now : Scope) → pushed ≡ made ++ a ∷ [] →
        note_statement (statement parsed x) sc ≡ Ok (statement noted a) →
        judge_next (returns (statement parsed x)) (statement_all parsed (drop (i + 1) xs)) ≡ Ok tt →
        now ≡ after (statement parsed x) sc →
        fronted (statements_before pushed) (note_block (statement_all parsed (drop (i + 1) xs)) now) ≡ whole
    block_turn pushed a now grows one next is_after =
        ap (λ (ss : List NotedStmt). fronted (statements_before ss)
        (note_block (statement_all parsed (drop (i + 1) xs)) now)) grows
        ∙ front_grows (statements (statement noted a)) (statements_before made)
        (statements_before (made ++ a ∷ [])) (note_block (statement_all parsed (drop (i + 1) xs)) now)
        (statements_pushed made a)
        ∙ ap (fronted (statements_before made))
        (block_goes_on (statement parsed x) (statement_all parsed (drop (i + 1) xs)) sc now
        (statement noted a) one next is_after)
        ∙ sym block_at

-- ---- branches

-- the branches behind one of which the block is noted, and that one before them
abbrev pub branches_further : PlainBranches → List NotedExpression → Scope → NotedExpression →
    NotedStatements → Judged NotedBranches
branches_further rest tests sc a b = note_branches rest tests sc then λ all. Ok (branches a b all)

module _ (made : List NotedBranch) (xs : List ParsedBranch) (i : ℕ) (tests : List (Box NotedCode Global))
    (sc : Scope) (whole : Judged NotedBranches)
    (so_far : fronted (branches_before made)
    (note_branches (branch_all parsed (drop i xs)) (all_boxed tests) sc) ≡ whole) where
  -- all branches are noted
  pub branches_end : length xs ≤ i → whole ≡ Ok (branch_all noted made)
  branches_end ends =
      sym so_far
      ∙ at_drop_all (λ (left : List ParsedBranch). fronted (branches_before made)
      (note_branches (branch_all parsed left) (all_boxed tests) sc)) xs i ends
      ∙ ap Ok (branches_whole made)

  module _ (x : ParsedBranch) (within : i < length xs) (is : x ≡ get_or xs i x) where
    -- what is left, from this branch on
    branches_at : (left : List (Box NotedCode Global)) → tests ≡ left →
        whole ≡ fronted (branches_before made)
        (note_branches (branches (expression parsed x.test.value) (block parsed x.block)
        (branch_all parsed (drop (i + 1) xs))) (all_boxed left) sc)
    branches_at left same =
        sym so_far
        ∙ left_at (λ (rest : List ParsedBranch). fronted (branches_before made)
        (note_branches (branch_all parsed rest) (all_boxed tests) sc)) xs i x within is
        ∙ ap (λ (all : List (Box NotedCode Global)). fronted (branches_before made)
        (note_branches (branches (expression parsed x.test.value) (block parsed x.block)
        (branch_all parsed (drop (i + 1) xs))) (all_boxed all) sc)) same

    -- no test is left
    pub branches_turn_ends : tests ≡ [] → whole ≡ Ok (branch_all noted made)
    branches_turn_ends none = branches_at [] none ∙ ap Ok (branches_whole made)

    -- its block is refused
    pub branches_turn_stops : (test : Box NotedCode Global) (left : List (Box NotedCode Global))
        (f : StatementFault) → tests ≡ test ∷ left →
        note_block (block parsed x.block) sc ≡ Err f → whole ≡ Err f
    branches_turn_stops test left f same h =
        branches_at (test ∷ left) same
        ∙ ap (λ (j : Judged NotedStatements). fronted (branches_before made)
        (j then branches_further (branch_all parsed (drop (i + 1) xs)) (all_boxed left) sc (boxed test))) h

    -- its block is noted
    pub branches_turn : (pushed : List NotedBranch) (one : NotedBranch) (left : List (Box NotedCode Global)) →
        pushed ≡ made ++ one ∷ [] → tests ≡ one.test ∷ left →
        note_block (block parsed x.block) sc ≡ Ok (block noted one.block) →
        fronted (branches_before pushed)
        (note_branches (branch_all parsed (drop (i + 1) xs)) (all_boxed left) sc) ≡ whole
    branches_turn pushed one left grows same h =
        ap (λ (bs : List NotedBranch). fronted (branches_before bs)
        (note_branches (branch_all parsed (drop (i + 1) xs)) (all_boxed left) sc)) grows
        ∙ front_grows (branches (boxed one.test) (block noted one.block)) (branches_before made)
        (branches_before (made ++ one ∷ []))
        (note_branches (branch_all parsed (drop (i + 1) xs)) (all_boxed left) sc) (branches_pushed made one)
        ∙ sym (ap (λ (j : Judged NotedStatements). fronted (branches_before made)
        (j then branches_further (branch_all parsed (drop (i + 1) xs)) (all_boxed left) sc
        (boxed one.test))) h)
        ∙ sym (branches_at (one.test ∷ left) same)

-- ---- arms

-- the arms behind one of which the block is noted, and that one before them
abbrev pub arms_further : Pos → Placed Bytes → List (Bound Bytes) → PlainArms → Scope → NotedStatements →
    Judged NotedArms
arms_further at name binds rest sc b = note_arms rest sc then λ all. Ok (arms at name binds b all)

-- an arm says what another says in front of its block
pub record SaysHead (one : NotedArm) (x : ParsedArm) : Type 0 where
  pub at : one.at ≡ x.at
  pub name : placed noted one.case ≡ placed parsed x.case
  pub binds : map (bound noted) one.binds.items ≡ map (bound parsed) x.binds.items

-- an arm before others says so too
pub head_before : (one : NotedArm) (x : ParsedArm) (rest : NotedArms) → SaysHead one x →
    arms x.at (placed parsed x.case) (map (bound parsed) x.binds.items) (block noted one.block) rest
    ≡ arms one.at (placed noted one.case) (map (bound noted) one.binds.items) (block noted one.block) rest
head_before one x rest says =
    sym
    (ap (λ (at : Pos). arms at (placed noted one.case) (map (bound noted) one.binds.items)
    (block noted one.block) rest) says.at
    ∙ ap (λ (name : Placed Bytes). arms x.at name (map (bound noted) one.binds.items) (block noted one.block)
    rest) says.name
    ∙ ap (λ (binds : List (Bound Bytes)). arms x.at (placed parsed x.case) binds (block noted one.block) rest)
    says.binds)

module _ (made : List NotedArm) (xs : List ParsedArm) (i : ℕ) (sc : Scope) (whole : Judged NotedArms)
    (so_far : fronted (arms_before made) (note_arms (arm_all parsed (drop i xs)) sc) ≡ whole) where
  -- all arms are noted
  pub arms_end : length xs ≤ i → whole ≡ Ok (arm_all noted made)
  arms_end ends =
      sym so_far
      ∙ at_drop_all (λ (left : List ParsedArm). fronted (arms_before made)
      (note_arms (arm_all parsed left) sc)) xs i ends
      ∙ ap Ok (arms_whole made)

  module _ (x : ParsedArm) (within : i < length xs) (is : x ≡ get_or xs i x) where
    -- what is left, from this arm on
    arms_at : whole ≡ fronted (arms_before made)
        (note_arms (arms x.at (placed parsed x.case) (map (bound parsed) x.binds.items) (block parsed x.block)
        (arm_all parsed (drop (i + 1) xs))) sc)
    arms_at =
        sym so_far
        ∙ left_at (λ (left : List ParsedArm). fronted (arms_before made) (note_arms (arm_all parsed left) sc))
        xs i x within is

    -- its block is refused
    pub arms_turn_stops : (f : StatementFault) →
        note_block (block parsed x.block) (with_bound (map (bound parsed) x.binds.items) sc) ≡ Err f →
        whole ≡ Err f
    arms_turn_stops f h =
        arms_at
        ∙ ap (λ (j : Judged NotedStatements). fronted (arms_before made)
        (j then arms_further x.at (placed parsed x.case) (map (bound parsed) x.binds.items)
        (arm_all parsed (drop (i + 1) xs)) sc)) h

    -- its block is noted
    pub arms_turn : (pushed : List NotedArm) (one : NotedArm) → pushed ≡ made ++ one ∷ [] → SaysHead one x →
        note_block (block parsed x.block) (with_bound (map (bound parsed) x.binds.items) sc)
        ≡ Ok (block noted one.block) →
        fronted (arms_before pushed) (note_arms (arm_all parsed (drop (i + 1) xs)) sc) ≡ whole
    arms_turn pushed one grows says h =
        ap (λ (all : List NotedArm). fronted (arms_before all) (note_arms (arm_all parsed (drop (i + 1) xs)) sc)) grows
        ∙ front_grows (arms x.at (placed parsed x.case) (map (bound parsed) x.binds.items)
        (block noted one.block)) (arms_before made) (arms_before (made ++ one ∷ []))
        (note_arms (arm_all parsed (drop (i + 1) xs)) sc)
        (λ (rest : NotedArms). arms_pushed made one rest ∙ sym (ap (arms_before made) (head_before one x rest says)))
        ∙ sym (ap (λ (j : Judged NotedStatements). fronted (arms_before made)
        (j then arms_further x.at (placed parsed x.case) (map (bound parsed) x.binds.items)
        (arm_all parsed (drop (i + 1) xs)) sc)) h)
        ∙ sym arms_at

-- ---- tests

-- tests behind others
abbrev pub tests_behind : List NotedExpression → Noting (List NotedExpression) → Noting (List NotedExpression)
tests_behind made left = left >>= λ rest. Ok (made ++ rest)

-- the tests behind one that is noted, and that one before them
abbrev pub tests_further : Scope → PlainBranches → NotedExpression → Noting (List NotedExpression)
tests_further sc rest a = note_tests sc rest >>= λ all. Ok (a ∷ all)

-- no tests before others
pub tests_none : (left : Noting (List NotedExpression)) → tests_behind [] left ≡ left
tests_none (Ok rest) = refl
tests_none (Err f) = refl

-- a test before those that are left stands behind those that were noted
pub tests_grow : (made : List NotedExpression) (a : NotedExpression) (left : Noting (List NotedExpression)) →
    tests_behind (made ++ a ∷ []) left ≡ tests_behind made (left >>= λ all. Ok (a ∷ all))
tests_grow made a (Ok rest) = ap Ok (append_assoc made (a ∷ []) rest)
tests_grow made a (Err f) = refl

module _ (made : List (Box NotedCode Global)) (xs : List ParsedBranch) (i : ℕ) (sc : Scope)
    (whole : Noting (List NotedExpression))
    (so_far : tests_behind (all_boxed made) (note_tests sc (branch_all parsed (drop i xs))) ≡ whole) where
  -- all tests are noted
  pub tests_end : length xs ≤ i → whole ≡ Ok (all_boxed made)
  tests_end ends =
      sym so_far
      ∙ at_drop_all (λ (left : List ParsedBranch). tests_behind (all_boxed made)
      (note_tests sc (branch_all parsed left))) xs i ends
      ∙ ap Ok (append-nil (all_boxed made))

  module _ (x : ParsedBranch) (within : i < length xs) (is : x ≡ get_or xs i x) where
    -- what is left, from this test on
    tests_at : whole ≡ tests_behind (all_boxed made)
        (note_tests sc (branches (expression parsed x.test.value) (block parsed x.block)
        (branch_all parsed (drop (i + 1) xs))))
    tests_at =
        sym so_far
        ∙ left_at (λ (left : List ParsedBranch). tests_behind (all_boxed made)
        (note_tests sc (branch_all parsed left))) xs i x within is

    -- the test stops the noting
    pub tests_turn_stops : (f : Fault) → note_test sc (expression parsed x.test.value) ≡ Err f → whole ≡ Err f
    tests_turn_stops f h =
        tests_at
        ∙ ap (λ (n : Noting NotedExpression). tests_behind (all_boxed made)
        (n >>= tests_further sc (branch_all parsed (drop (i + 1) xs)))) h

    -- the test is noted
    pub tests_turn : (pushed : List (Box NotedCode Global)) (one : Box NotedCode Global) → pushed ≡ made ++ one ∷ [] →
        note_test sc (expression parsed x.test.value) ≡ Ok (boxed one) →
        tests_behind (all_boxed pushed) (note_tests sc (branch_all parsed (drop (i + 1) xs))) ≡ whole
    tests_turn pushed one grows h =
        ap (λ (all : List (Box NotedCode Global)). tests_behind (all_boxed all)
        (note_tests sc (branch_all parsed (drop (i + 1) xs)))) grows
        ∙ ap (λ (all : List NotedExpression). tests_behind all
        (note_tests sc (branch_all parsed (drop (i + 1) xs)))) (map-append boxed made (one ∷ []))
        ∙ tests_grow (all_boxed made) (boxed one) (note_tests sc (branch_all parsed (drop (i + 1) xs)))
        ∙ sym (ap (λ (n : Noting NotedExpression). tests_behind (all_boxed made)
        (n >>= tests_further sc (branch_all parsed (drop (i + 1) xs)))) h)
        ∙ sym tests_at
