-- The search for the notes of a statement and of a block. It finds the one good noting, or the first clause
-- that fails, with the place of the statement in which it fails. The notes of a statement's own types, names
-- and expressions are judged before the statements in its blocks, so that all tests of a conditional come
-- first, and of a `case` the expression and all of its arms.
use Rattle.std.specs.Prelude.{Bool, true, not, List, [], ◌∷◌, Option, None, Some, Ok, Err}
use Rattle.au_base.specs.declared.places.Pos.{Pos}
use Rattle.au_syntax.specs.declared.expressions.BorrowMode.{BorrowMode}
use Rattle.au_syntax.specs.Names.{Placed}
use Rattle.au_syntax.specs.Plain.{Bytes, PlainExpression, PlainStatement, PlainStatements, PlainBranches}
use Rattle.au_syntax.specs.Plain.{PlainArms}
use Rattle.au_syntax.specs.Statements.{Statement, Statements, skip, declare, destructure, assign}
use Rattle.au_syntax.specs.Statements.{assign_through, conditional, conditional_else, case_of, while_loop}
use Rattle.au_syntax.specs.Statements.{for_loop, borrow_in, borrow_typed, discard, return_of, no_statements}
use Rattle.au_syntax.specs.Statements.{statements, no_branches, branches, no_arms, arms}
use Rattle.au_syntax.specs.Types.{Bound, WrittenType, named, reference}
use Rattle.au_types.specs.declared.types.Region.TheVariants as regions
use Rattle.au_types.specs.Same.{same}
use Rattle.au_types.specs.Types as mean
use Rattle.au_types.specs.Types.{Meaning}
use Rattle.au_judged_types.specs.Judging.{refers}
use Rattle.au_typing.specs.Scopes.{Case, Scope, Typed}
use Rattle.au_typing.specs.Bare.{is_bare}
use Rattle.au_typing.specs.Faults.{Why, Noting, ◌>>=◌, check, known_or, why, unknown, different, not_free}
use Rattle.au_typing.specs.Faults.{shape, after_return, record_wanted, union_wanted, reference_wanted}
use Rattle.au_typing.specs.Faults.{write_reference_wanted, integer_wanted, assignable_wanted, labels_wanted}
use Rattle.au_typing.specs.Faults.{arms_wanted}
use Rattle.au_typing.specs.Lookups.{is_free_in, record_part, type_of_name, value_type, variable_of}
use Rattle.au_typing.specs.Lookups.{written_type}
use Rattle.au_typing.specs.Notes.{NotedExpression, type_of}
use Rattle.au_typing.specs.Rules.{is_integer}
use Rattle.au_typing.specs.Operands.{of_one_type, paired}
use Rattle.au_typing.specs.Search.{note}
use Rattle.au_typing.specs.DerivationFaults.{Judged, ◌then◌, placed, refused}
use Rattle.au_typing.specs.InScope.{after, fixed_variable, with_bound, with_reference, with_variable}
use Rattle.au_typing.specs.Parts.{ArmHead, arms_fit, binds_each, borrow_type, case_of_arm, cases_told}
use Rattle.au_typing.specs.Parts.{heads_of, is_borrowed_within, lent, mode_for}
use Rattle.au_typing.specs.Returns.{returns}
use Rattle.au_typing.specs.Trees.{NotedStatement, NotedStatements, NotedBranches, NotedArms}

-- the place of a statement's first token
abbrev pub place_of : {N T C : Type 0} → Statement N T C → Pos
place_of (skip at) = at
place_of (declare at binding n t e) = at
place_of (destructure at binds e) = at
place_of (assign at n path e) = at
place_of (assign_through at n path e) = at
place_of (conditional at tests) = at
place_of (conditional_else at tests block) = at
place_of (case_of at e all) = at
place_of (while_loop at e block) = at
place_of (for_loop at n first last block) = at
place_of (borrow_in at kind x r region block stop) = at
place_of (borrow_typed at r t mode x block stop) = at
place_of (discard at e) = at
place_of (return_of at e) = at

-- ---- the parts of single statements, in the order in which they are judged

-- the type of a place that is assigned to: of a variable, or of a part of a record
abbrev pub place_type : Scope → Meaning → List (Placed Bytes) → Noting Meaning
place_type sc t [] = Ok t
place_type sc t (field ∷ fields) = record_part sc t (field ∷ fields)

-- why what isn't a variable isn't assigned to: a constant is none
abbrev pub not_assignable : Bytes → Option Meaning → Why
not_assignable x None = unknown x
not_assignable x (Some t) = shape assignable_wanted

-- why what isn't a variable is no write reference
abbrev pub not_writing : Bytes → Option Meaning → Why
not_writing x None = unknown x
not_writing x (Some t) = shape write_reference_wanted

-- the type behind a write reference
abbrev pub written_through : Meaning → Option Meaning
written_through (mean.writes t region) = Some t
written_through t = None

-- what stands at a place that is free
abbrev pub free_place : Scope → Meaning → Noting Meaning
free_place sc t = check (is_free_in sc t) (not_free t) (Ok t)

-- a written reference into a region is the type of the borrow there
abbrev pub is_of_borrow : BorrowMode → Meaning → Bytes × Meaning → Noting (Bytes × Meaning)
is_of_borrow mode lends y =
    check (same (borrow_type mode y.0 lends) y.1) (different (borrow_type mode y.0 lends) y.1) (Ok y)

module _ (sc : Scope) where
  -- `let` and `var`
  abbrev pub note_declared : WrittenType → PlainExpression → Noting NotedExpression
  note_declared t e = written_type sc t >>= λ of. note sc e (Some of)

  -- a field that is bound, and several of them from left to right
  abbrev pub judge_bound : List Typed → Bound Bytes → Noting Meaning
  judge_bound fields b =
      known_or (shape labels_wanted) (type_of_name b.name.name.name fields)
      >>= λ field. written_type sc b.of >>= λ of. check (same field of) (different field of) (Ok of)

  abbrev pub judge_all_bound : List Typed → List (Bound Bytes) → Noting (Unit {0})
  judge_all_bound fields [] = Ok tt
  judge_all_bound fields (b ∷ rest) = judge_bound fields b >>= λ of. judge_all_bound fields rest

  -- all labels before the written types
  abbrev pub judge_binds : List Typed → List (Bound Bytes) → Noting (Unit {0})
  judge_binds fields binds =
      check (binds_each fields binds) (shape labels_wanted) (judge_all_bound fields binds)

  -- a destructuring `let`
  abbrev pub note_taken : List (Bound Bytes) → PlainExpression → Noting NotedExpression
  note_taken binds e =
      note sc e None
      >>= λ a. known_or (shape record_wanted) (sc.outside.fields (type_of a))
      >>= λ fields. judge_binds fields binds >>= λ bound. Ok a

  -- an assignment to a variable or to a part of one
  abbrev pub judge_assigned : Bytes → List (Placed Bytes) → Noting Meaning
  judge_assigned x path =
      known_or (not_assignable x (value_type sc x)) (variable_of sc x)
      >>= λ one. check one.assignable (shape assignable_wanted) (place_type sc one.of path)
      >>= λ of. free_place sc of

  abbrev pub note_assigned : Bytes → List (Placed Bytes) → PlainExpression → Noting NotedExpression
  note_assigned x path e = judge_assigned x path >>= λ of. note sc e (Some of)

  -- an assignment behind a write reference
  abbrev pub judge_put : Bytes → List (Placed Bytes) → Noting Meaning
  judge_put r path =
      known_or (not_writing r (value_type sc r)) (variable_of sc r)
      >>= λ one. known_or (shape write_reference_wanted) (written_through one.of)
      >>= λ to. record_part sc to path
      >>= λ of. free_place sc of

  abbrev pub note_put : Bytes → List (Placed Bytes) → PlainExpression → Noting NotedExpression
  note_put r path e = judge_put r path >>= λ of. note sc e (Some of)

  -- a test
  abbrev pub note_test : PlainExpression → Noting NotedExpression
  note_test e = note sc e (Some mean.truth)

  -- the tests of a conditional in order
  abbrev pub note_tests : PlainBranches → Noting (List NotedExpression)
  note_tests no_branches = Ok []
  note_tests (branches e block rest) = note_test e >>= λ a. note_tests rest >>= λ all. Ok (a ∷ all)

  -- the names of the arms, of which each means something
  abbrev pub judge_names : List ArmHead → Noting (Unit {0})
  judge_names [] = Ok tt
  judge_names (head ∷ rest) =
      known_or (unknown head.name) (sc.outside.target head.name) >>= λ target. judge_names rest

  -- an arm, and several of them in order
  abbrev pub judge_arm : List Case → ArmHead → Noting (Unit {0})
  judge_arm cases head =
      known_or (shape arms_wanted) (case_of_arm sc cases head)
      >>= λ one. judge_binds one.fields head.binds

  abbrev pub judge_arms : List Case → List ArmHead → Noting (Unit {0})
  judge_arms cases [] = Ok tt
  judge_arms cases (head ∷ rest) = judge_arm cases head >>= λ arm. judge_arms cases rest

  -- the cases that are told apart of a type in which no region is anonymous: of a union that is known here,
  -- or of one behind a reference
  abbrev pub judge_union : Meaning → Noting (List Case)
  judge_union t =
      check (not (is_borrowed_within t)) (shape union_wanted)
      (known_or (shape union_wanted) (cases_told sc t))

  -- all names before the set of arms, and that before the arms
  abbrev pub judge_heads : List Case → List ArmHead → Noting (Unit {0})
  judge_heads cases heads =
      judge_names heads
      >>= λ named. check (arms_fit sc cases heads) (shape arms_wanted) (judge_arms cases heads)

  -- a `case` without its blocks
  abbrev pub note_case : PlainExpression → List ArmHead → Noting NotedExpression
  note_case e heads =
      note sc e None
      >>= λ a. judge_union (type_of a) >>= λ cases. judge_heads cases heads >>= λ judged. Ok a

  -- the bounds of a `for`
  abbrev pub note_bounds : PlainExpression → PlainExpression → Noting (NotedExpression × NotedExpression)
  note_bounds first last =
      paired (is_bare first) (is_bare last) (note sc first) (note sc last) None
      >>= λ y. of_one_type y.0 y.1 (check (is_integer (type_of y.0)) (shape integer_wanted) (Ok y))

  -- the type that is borrowed of a variable
  abbrev pub judge_lent : BorrowMode → Bytes → Noting Meaning
  judge_lent mode x =
      known_or (unknown x) (variable_of sc x)
      >>= λ one. known_or (shape write_reference_wanted) (lent mode one.of)

  -- a reference that is written into a region, which isn't in scope in the type behind it
  abbrev pub judge_reference : WrittenType → Noting (Bytes × Meaning)
  judge_reference (reference at access target name) =
      written_type sc target >>= λ to. Ok (name.name, refers access to (regions.Named name.name))
  judge_reference (named name args) =
      written_type sc (named name args) >>= λ of. Err (why (shape reference_wanted))

  -- a borrow statement with a written type: its region and its type
  abbrev pub judge_borrow : WrittenType → BorrowMode → Bytes → Noting (Bytes × Meaning)
  judge_borrow t mode x =
      judge_lent mode x >>= λ lends. judge_reference t >>= λ y. is_of_borrow mode lends y

  -- a call statement
  abbrev pub note_discarded : PlainExpression → Noting NotedExpression
  note_discarded e =
      note sc e None >>= λ a. check (is_free_in sc (type_of a)) (not_free (type_of a)) (Ok a)

-- a statement that may not follow what stands before it
abbrev pub judge_next : {N T C : Type 0} → Bool → Statements N T C → Judged (Unit {0})
judge_next true (statements s rest) = Err (refused (place_of s) after_return)
judge_next has_returned rest = Ok tt

-- ---- statements and blocks

abbrev mutual
  -- a statement
  pub note_statement : PlainStatement → Scope → Judged NotedStatement
  note_statement (skip at) sc = Ok (skip at)
  note_statement (declare at binding name t e) sc =
      placed at (note_declared sc t e) then λ a. Ok (declare at binding name t a)
  note_statement (destructure at binds e) sc =
      placed at (note_taken sc binds e) then λ a. Ok (destructure at binds a)
  note_statement (assign at x path e) sc =
      placed at (note_assigned sc x.name path e) then λ a. Ok (assign at x path a)
  note_statement (assign_through at r path e) sc =
      placed at (note_put sc r.name path e) then λ a. Ok (assign_through at r path a)
  note_statement (conditional at tests) sc =
      placed at (note_tests sc tests)
      then λ noted. note_branches tests noted sc then λ all. Ok (conditional at all)
  note_statement (conditional_else at tests block) sc =
      placed at (note_tests sc tests)
      then λ noted. note_branches tests noted sc
      then λ all. note_block block sc then λ b. Ok (conditional_else at all b)
  note_statement (case_of at e all) sc =
      placed at (note_case sc e (heads_of all))
      then λ a. note_arms all sc then λ noted. Ok (case_of at a noted)
  note_statement (while_loop at e block) sc =
      placed at (note_test sc e) then λ a. note_block block sc then λ b. Ok (while_loop at a b)
  note_statement (for_loop at name first last block) sc =
      placed at (note_bounds sc first last)
      then λ y. note_block block (with_variable (fixed_variable name.name (type_of y.0)) sc)
      then λ b. Ok (for_loop at name y.0 y.1 b)
  note_statement (borrow_in at kind x r region block stop) sc =
      placed at (judge_lent sc (mode_for kind) x.name)
      then λ of. note_block block
      (with_reference r.name region.name (borrow_type (mode_for kind) region.name of) sc)
      then λ b. Ok (borrow_in at kind x r region b stop)
  note_statement (borrow_typed at r t mode x block stop) sc =
      placed at (judge_borrow sc t mode x.name)
      then λ y. note_block block (with_reference r.name y.0 y.1 sc)
      then λ b. Ok (borrow_typed at r t mode x b stop)
  note_statement (discard at e) sc = placed at (note_discarded sc e) then λ a. Ok (discard at a)
  note_statement (return_of at e) sc = placed at (note sc e (Some sc.result)) then λ a. Ok (return_of at a)

  -- a block: that a statement may not follow is told before any other fault of it
  pub note_block : PlainStatements → Scope → Judged NotedStatements
  note_block no_statements sc = Ok no_statements
  note_block (statements s rest) sc =
      note_statement s sc
      then λ a. judge_next (returns s) rest
      then λ may. note_block rest (after s sc) then λ all. Ok (statements a all)

  -- the blocks behind tests that are noted
  pub note_branches : PlainBranches → List NotedExpression → Scope → Judged NotedBranches
  note_branches no_branches noted sc = Ok no_branches
  note_branches (branches e block rest) [] sc = Ok no_branches
  note_branches (branches e block rest) (a ∷ noted) sc =
      note_block block sc then λ b. note_branches rest noted sc then λ all. Ok (branches a b all)

  -- the blocks of arms
  pub note_arms : PlainArms → Scope → Judged NotedArms
  note_arms no_arms sc = Ok no_arms
  note_arms (arms at n binds block rest) sc =
      note_block block (with_bound binds sc)
      then λ b. note_arms rest sc then λ all. Ok (arms at n binds b all)
