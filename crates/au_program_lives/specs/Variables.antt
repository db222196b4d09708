-- The variables of a function in text order, as a walk over parameters and then statements meets them: each
-- with the block over which its life is judged, and with what its type asks of that life.
use Rattle.std.specs.Prelude.{List, [], ◌∷◌, ◌++◌, map}
use Rattle.au_lives.specs.declared.lives.Sort.{Sort}
use Rattle.au_lives.specs.declared.lives.Sort.TheVariants as asks
use Rattle.au_lives.specs.Paths.{access_of, bound_name}
use Rattle.au_lives.specs.Refusals.{Variable}
use Rattle.au_lives.specs.Scopes.{scope}
use Rattle.au_program_lives.specs.Scopes.{TypeScope, opened_by, opened_in}
use Rattle.au_program_lives.specs.Sorts.{reference_sort, region_written, written_sort}
use Rattle.au_syntax.specs.Names.{Placed}
use Rattle.au_syntax.specs.Plain.{Bytes, PlainStatement, PlainStatements, PlainBranches, PlainArms}
use Rattle.au_syntax.specs.Statements.{skip, declare, destructure, assign, assign_through, conditional}
use Rattle.au_syntax.specs.Statements.{conditional_else, case_of, while_loop, for_loop, borrow_in}
use Rattle.au_syntax.specs.Statements.{borrow_typed, discard, return_of, no_statements, statements}
use Rattle.au_syntax.specs.Statements.{no_branches, branches, no_arms, arms}
use Rattle.au_syntax.specs.Types.{Bound, Labelled}

-- a variable over a block, with what its type asks
abbrev pub variable_over : PlainStatements → Placed Bytes → Sort → Variable
variable_over block name sort = record { scope = scope name block; sort = sort }

-- parameters, over the whole body
abbrev pub parameters_over : PlainStatements → List (Labelled Bytes) → TypeScope → List Variable
parameters_over body parameters sc =
    map (λ (p : Labelled Bytes). variable_over body p.name (written_sort sc p.of)) parameters

-- names that are bound to fields, over the same block
abbrev pub bound_over : PlainStatements → List (Bound Bytes) → TypeScope → List Variable
bound_over block binds sc =
    map (λ (b : Bound Bytes). variable_over block (bound_name b) (written_sort sc b.of)) binds

-- What a statement declares. A declaration `let x: T := e;` has the rest of its block for its scope, and asks
-- what `T` asks there; so has `var`, and each name that a `let` of fields binds.
abbrev pub variables_after : PlainStatement → PlainStatements → TypeScope → List Variable
variables_after (declare at binding name t e) rest sc = variable_over rest name (written_sort sc t) ∷ []
variables_after (destructure at binds e) rest sc = bound_over rest binds sc
variables_after s rest sc = []

abbrev mutual
  -- those of a block: what its first statement declares, those inside of that, and those of the rest
  pub variables_in : PlainStatements → TypeScope → List Variable
  variables_in no_statements sc = []
  variables_in (statements s rest) sc =
      variables_after s rest sc ++ (variables_inside s sc ++ variables_in rest sc)

  -- Those inside of a statement. The variable of a `for` has the block there, and is an integer, so Free. The
  -- reference of a borrow statement has the block there too, in which its region is open.
  pub variables_inside : PlainStatement → TypeScope → List Variable
  variables_inside (skip at) sc = []
  variables_inside (declare at binding name t e) sc = []
  variables_inside (destructure at binds e) sc = []
  variables_inside (assign at name fields e) sc = []
  variables_inside (assign_through at name fields e) sc = []
  variables_inside (conditional at bs) sc = variables_in_branches bs sc
  variables_inside (conditional_else at bs b) sc = variables_in_branches bs sc ++ variables_in b sc
  variables_inside (case_of at e all) sc = variables_in_arms all sc
  variables_inside (while_loop at e b) sc = variables_in b sc
  variables_inside (for_loop at name first last b) sc = variable_over b name asks.Free ∷ variables_in b sc
  variables_inside (borrow_in at access x r region b stop) sc =
      variable_over b r (reference_sort access) ∷ variables_in b (opened_in region.name sc)
  variables_inside (borrow_typed at r t mode x b stop) sc =
      variable_over b r (reference_sort (access_of mode)) ∷ variables_in b (opened_by (region_written t) sc)
  variables_inside (discard at e) sc = []
  variables_inside (return_of at e) sc = []

  -- those of the blocks of branches
  pub variables_in_branches : PlainBranches → TypeScope → List Variable
  variables_in_branches no_branches sc = []
  variables_in_branches (branches e b more) sc = variables_in b sc ++ variables_in_branches more sc

  -- those of arms: what an arm binds has its block
  pub variables_in_arms : PlainArms → TypeScope → List Variable
  variables_in_arms no_arms sc = []
  variables_in_arms (arms when' name binds b more) sc =
      bound_over b binds sc ++ (variables_in b sc ++ variables_in_arms more sc)

-- those of a function: its parameters, and those that its body declares
abbrev pub variables_of : List (Labelled Bytes) → PlainStatements → TypeScope → List Variable
variables_of parameters body sc = parameters_over body parameters sc ++ variables_in body sc
