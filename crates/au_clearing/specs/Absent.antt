-- Parts that don't mention a name.
use Rattle.std.specs.Prelude.{◌≡◌, Bool, true, false, not, ◌&&◌}
use Rattle.std.specs.Str.{bytes_eq}
use Rattle.au_syntax.specs.Statements.{skip, declare, destructure, assign, assign_through, conditional}
use Rattle.au_syntax.specs.Statements.{conditional_else, case_of, while_loop, for_loop, borrow_in}
use Rattle.au_syntax.specs.Statements.{borrow_typed, discard, return_of, no_statements, statements}
use Rattle.au_syntax.specs.Statements.{no_branches, branches, no_arms, arms}
use Rattle.au_syntax.specs.Plain.{Bytes, PlainExpression, PlainStatement, PlainStatements, PlainBranches}
use Rattle.au_syntax.specs.Plain.{PlainArms}
use Rattle.au_lives.specs.Mentions.{counts_in}
use Rattle.au_lives.specs.Lives.{is_untouched}
use Rattle.au_clearing.specs.Touches.{Untouched}
use Rattle.au_clearing.specs.Dealings.{Dealing}

-- the part touches the variable nowhere, and no path consumes it
pub record LeavesAlone (d : Dealing) : Type 0 where
  pub touches : d.touch ≡ Untouched
  pub spends : d.spends ≡ false

module _ (x : Bytes) where
  -- the expression doesn't mention x; whether the type of x is Free makes no difference
  abbrev pub absent_in : PlainExpression → Bool
  absent_in e = is_untouched (counts_in x true e) && is_untouched (counts_in x false e)

  -- another name
  abbrev pub is_other : Bytes → Bool
  is_other name = not (bytes_eq name x)

  abbrev mutual
    -- the statement mentions x neither in an expression, nor as what it assigns to or borrows
    pub absent : PlainStatement → Bool
    absent (skip at) = true
    absent (declare at binding name t e) = absent_in e
    absent (destructure at binds e) = absent_in e
    absent (assign at name fields e) = absent_in e && is_other name.name
    absent (assign_through at name fields e) = absent_in e && is_other name.name
    absent (conditional at bs) = absent_branches bs
    absent (conditional_else at bs b) = absent_branches bs && absent_block b
    absent (case_of at e rest) = absent_in e && absent_arms rest
    absent (while_loop at e b) = absent_in e && absent_block b
    absent (for_loop at name a z b) = absent_in a && (absent_in z && absent_block b)
    absent (borrow_in at access y r region b stop) = is_other y.name && absent_block b
    absent (borrow_typed at r t mode y b stop) = is_other y.name && absent_block b
    absent (discard at e) = absent_in e
    absent (return_of at e) = absent_in e

    pub absent_block : PlainStatements → Bool
    absent_block no_statements = true
    absent_block (statements s more) = absent s && absent_block more

    pub absent_branches : PlainBranches → Bool
    absent_branches no_branches = true
    absent_branches (branches e b more) = absent_in e && (absent_block b && absent_branches more)

    pub absent_arms : PlainArms → Bool
    absent_arms no_arms = true
    absent_arms (arms when' name binds b more) = absent_block b && absent_arms more
