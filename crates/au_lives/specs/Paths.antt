-- Paths through a block, and the steps that they meet.
use Rattle.std.specs.Prelude.{ℕ, zero, suc, ◌==◌, Bool, true, false, List, [], ◌∷◌, ◌++◌, map, length, drop}
use Rattle.std.specs.Prelude.{min, if◌then◌else◌}
use Rattle.std.specs.Option.{unwrap_or}
use Rattle.au_syntax.specs.declared.expressions.BorrowMode.{BorrowMode}
use Rattle.au_syntax.specs.declared.expressions.BorrowMode.TheVariants as modes
use Rattle.au_syntax.specs.declared.types.Access.{Access}
use Rattle.au_syntax.specs.declared.types.Access.TheVariants as access
use Rattle.au_syntax.specs.Names.{Placed}
use Rattle.au_syntax.specs.Types.{Bound}
use Rattle.au_syntax.specs.Statements.{skip, declare, destructure, assign, assign_through, conditional}
use Rattle.au_syntax.specs.Statements.{conditional_else, case_of, while_loop, for_loop, borrow_in}
use Rattle.au_syntax.specs.Statements.{borrow_typed, discard, return_of, no_statements, statements}
use Rattle.au_syntax.specs.Statements.{no_branches, branches, no_arms, arms}
use Rattle.au_syntax.specs.Plain.{Bytes, PlainExpression, PlainStatement, PlainStatements, PlainBranches}
use Rattle.au_syntax.specs.Plain.{PlainArms}

-- what a step is: a whole expression, the opening of a borrow statement on a variable, or an assignment to a
-- variable or its part, or to what lies behind a variable
pub data Met : Type 0 where
  whole : PlainExpression → Met
  opening : Access → Bytes → Met
  assignment : Bytes → Met
  assignment_behind : Bytes → Met

-- what stands round a step: an open borrow statement on a variable, or a name that is declared there
pub data Around : Type 0 where
  lent : Access → Bytes → Around
  declared : Bytes → Around

-- a step, and what stands round it, the innermost first
pub record Step : Type 0 where
  pub what : Met
  pub around : List Around

abbrev pub step : Met → List Around → Step
step m os = record { what = m; around = os }

-- What a path through a part met, the numbers that it read, each the least that takes the same way, the
-- choices that are left, and whether it returned.
pub record Run : Type 0 where
  pub steps : List Step
  pub taken : List ℕ
  pub rest : List ℕ
  pub returned : Bool

-- the number that is read next: 0 where none is left
abbrev pub first : List ℕ → ℕ
first [] = 0
first (c ∷ cs) = c

-- a run that meets these steps and reads nothing
abbrev pub met : List Step → List ℕ → Run
met ss cs = record { steps = ss; taken = []; rest = cs; returned = false }

abbrev pub with_steps : List Step → Run → Run
with_steps ss r = record { steps = ss ++ r.steps; taken = r.taken; rest = r.rest; returned = r.returned }

abbrev pub chose : ℕ → Run → Run
chose n r = record { steps = r.steps; taken = n ∷ r.taken; rest = r.rest; returned = r.returned }

-- one part and then another
abbrev pub followed : Run → Run → Run
followed r s = record {
  steps = r.steps ++ s.steps;
  taken = r.taken ++ s.taken;
  rest = s.rest;
  returned = s.returned;
}

-- one part and then another, unless the first returned
abbrev pub and_then : Run → (List ℕ → Run) → Run
and_then r more = if r.returned then r else followed r (more r.rest)

-- The turns of a loop, at most as many as there are numbers: each reads one, and 0 leaves.
abbrev pub turns : List Step → (List ℕ → Run) → ℕ → List ℕ → Run
turns tests body zero cs = with_steps tests (chose 0 (met [] (drop 1 cs)))
turns tests body (suc n) cs =
    with_steps tests
    (
    if first cs == 0 then chose 0 (met [] (drop 1 cs))
    else and_then (chose 1 (body (drop 1 cs))) (turns tests body n)
    )

abbrev pub count_of_branches : PlainBranches → ℕ
count_of_branches no_branches = 0
count_of_branches (branches e b more) = suc (count_of_branches more)

abbrev pub count_of_arms : PlainArms → ℕ
count_of_arms no_arms = 0
count_of_arms (arms at name binds b more) = suc (count_of_arms more)

-- the name of the variable that a field is bound to
abbrev pub bound_name : Bound Bytes → Placed Bytes
bound_name bind = unwrap_or bind.name.alias bind.name.name

-- the names that are bound
abbrev pub bound_names : List (Bound Bytes) → List Around
bound_names binds = map (λ bind. declared (bound_name bind).name) binds

-- the names that a statement declares for the rest of its block
abbrev pub declared_by : PlainStatement → List Around
declared_by (declare at binding name t e) = declared name.name ∷ []
declared_by (destructure at binds e) = bound_names binds
declared_by s = []

-- `&` lends for reading, `&!` and `&~` for writing
abbrev pub access_of : BorrowMode → Access
access_of modes.Read = access.Read
access_of modes.Write = access.Write
access_of modes.Reborrow = access.Write

-- a whole expression as a step
abbrev pub says : PlainExpression → List Around → Step
says e os = step (whole e) os

abbrev mutual
  -- The path through a statement that the choices pick, and what is met on it: each conditional and each case
  -- reads the number of its arm, one past the last takes the last, and each turn of a loop reads whether it
  -- is made.
  pub follow : PlainStatement → List Around → List ℕ → Run
  follow (skip at) os cs = met [] cs
  follow (declare at binding name t e) os cs = met (says e os ∷ []) cs
  follow (destructure at binds e) os cs = met (says e os ∷ []) cs
  follow (assign at name fields e) os cs = met (says e os ∷ step (assignment name.name) os ∷ []) cs
  follow (assign_through at name fields e) os cs =
      met (says e os ∷ step (assignment_behind name.name) os ∷ []) cs
  follow (conditional at bs) os cs =
      chose (min (first cs) (count_of_branches bs)) (follow_branches bs os (met []) (first cs) (drop 1 cs))
  follow (conditional_else at bs b) os cs =
      chose (min (first cs) (count_of_branches bs))
      (follow_branches bs os (follow_block b os) (first cs) (drop 1 cs))
  follow (case_of at e no_arms) os cs = with_steps (says e os ∷ []) (chose 0 (met [] (drop 1 cs)))
  follow (case_of at e (arms when' name binds b more)) os cs =
      with_steps (says e os ∷ []) (chose (min (first cs) (count_of_arms more))
      (follow_arms more os (follow_block b (bound_names binds ++ os)) (first cs) (drop 1 cs)))
  follow (while_loop at e b) os cs = turns (says e os ∷ []) (follow_block b os) (length cs) cs
  follow (for_loop at name a z b) os cs =
      with_steps (says a os ∷ says z os ∷ [])
      (turns [] (follow_block b (declared name.name ∷ os)) (length cs) cs)
  follow (borrow_in at access x r region b stop) os cs =
      with_steps (step (opening access x.name) os ∷ [])
      (follow_block b (declared r.name ∷ lent access x.name ∷ os) cs)
  follow (borrow_typed at r t mode x b stop) os cs =
      with_steps (step (opening (access_of mode) x.name) os ∷ [])
      (follow_block b (declared r.name ∷ lent (access_of mode) x.name ∷ os) cs)
  follow (discard at e) os cs = met (says e os ∷ []) cs
  follow (return_of at e) os cs = record { steps = says e os ∷ []; taken = []; rest = cs; returned = true }

  -- statements one after another, up to one that returns
  pub follow_block : PlainStatements → List Around → List ℕ → Run
  follow_block no_statements os cs = met [] cs
  follow_block (statements s more) os cs = and_then (follow s os cs) (follow_block more (declared_by s ++ os))

  -- the tests up to that number and its block, or all tests and what is done where none holds
  pub follow_branches : PlainBranches → List Around → (List ℕ → Run) → ℕ → List ℕ → Run
  follow_branches no_branches os other n cs = other cs
  follow_branches (branches e b more) os other zero cs = with_steps (says e os ∷ []) (follow_block b os cs)
  follow_branches (branches e b more) os other (suc n) cs =
      with_steps (says e os ∷ []) (follow_branches more os other n cs)

  -- the arm of that number, counted from this one on, or the last
  pub follow_arms : PlainArms → List Around → (List ℕ → Run) → ℕ → List ℕ → Run
  follow_arms no_arms os this n cs = this cs
  follow_arms (arms when' name binds b more) os this zero cs = this cs
  follow_arms (arms when' name binds b more) os this (suc n) cs =
      follow_arms more os (follow_block b (bound_names binds ++ os)) n cs
