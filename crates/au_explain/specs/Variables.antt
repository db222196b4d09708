-- The variables of a body whose types aren't Free, in the order in which they are declared, each with its
-- type and its mentions. What is not well typed has none.
use Rattle.std.specs.Prelude.{List, [], ◌∷◌, ◌++◌, Option, None, Some, Ok, Err, if◌then◌else◌}
use Rattle.std.specs.List.{flat_map}
use Rattle.au_typing.specs.Bodies.{body_scope}
use Rattle.au_typing.specs.InScope.{after, fixed_variable, with_bound, with_reference, with_variable}
use Rattle.au_typing.specs.DerivationSearch.{judge_borrow, note_bounds}
use Rattle.au_explain.specs.declared.lists.VariableLives.{VariableLives}
use Rattle.au_explain.specs.Mentions.{mentions_of_block}
use Rattle.au_lives.specs.Paths.{bound_name}
use Rattle.au_noting_programs.specs.Entering.{lent_reference}
use Rattle.au_typing.specs.Scopes.{Outside, Scope}
use Rattle.au_syntax.specs.Modules.{Constrained, Header}
use Rattle.au_syntax.specs.Names.{Placed}
use Rattle.au_syntax.specs.Plain.{Bytes, PlainExpression, PlainStatement, PlainStatements, PlainBranches}
use Rattle.au_syntax.specs.Plain.{PlainArms}
use Rattle.au_syntax.specs.Statements.{skip, declare, destructure, assign, assign_through, conditional}
use Rattle.au_syntax.specs.Statements.{conditional_else, case_of, while_loop, for_loop, borrow_in}
use Rattle.au_syntax.specs.Statements.{borrow_typed, discard, return_of, no_statements, statements}
use Rattle.au_syntax.specs.Statements.{no_branches, branches, no_arms, arms}
use Rattle.au_syntax.specs.Types.{Bound, Labelled}
use Rattle.au_type_texts.specs.Texts.{text_of}
use Rattle.au_types.specs.Types.{Meaning}
use Rattle.au_typing.specs.Faults.{Noting, ◌>>=◌}
use Rattle.au_typing.specs.Lookups.{is_free_in, variable_type}
use Rattle.au_typing.specs.Notes.{type_of}

-- ---- types

-- what is told, if nothing stops it
abbrev pub told : {A : Type 0} → Noting A → Option A
told (Ok one) = Some one
told (Err fault) = None

-- the type of the bounds of a `for`, which is that of its variable
abbrev pub bounds_type : Scope → PlainExpression → PlainExpression → Noting Meaning
bounds_type sc first last = note_bounds sc first last >>= λ y. Ok (type_of y.0)

-- ---- single variables

-- a variable of a type, over a block
abbrev pub life : Scope → Placed Bytes → PlainStatements → Meaning → VariableLives
life sc name b t = record {
  name = name.name;
  at = name.at;
  of = text_of sc.outside.heads t;
  mentions = mentions_of_block name.name b;
}

-- the same, if its type isn't Free
abbrev pub listed_as : Scope → Placed Bytes → PlainStatements → Option Meaning → List VariableLives
listed_as sc name b None = []
listed_as sc name b (Some t) = if is_free_in sc t then [] else life sc name b t ∷ []

-- a variable that was declared, over a block
abbrev pub listed : Scope → Placed Bytes → PlainStatements → List VariableLives
listed sc name b = listed_as sc name b (variable_type sc name.name)

-- variables that are bound to fields
abbrev pub listed_binds : Scope → List (Bound Bytes) → PlainStatements → List VariableLives
listed_binds sc binds b = flat_map (λ (bind : Bound Bytes). listed sc (bound_name bind) b) binds

-- parameters
abbrev pub listed_parameters : Scope → List (Labelled Bytes) → PlainStatements → List VariableLives
listed_parameters sc parameters b = flat_map (λ (one : Labelled Bytes). listed sc one.name b) parameters

-- what a statement declares for the rest of its block, in the scope behind it
abbrev pub listed_after : PlainStatement → PlainStatements → Scope → List VariableLives
listed_after (declare at binding name t e) more sc = listed sc name more
listed_after (destructure at binds e) more sc = listed_binds sc binds more
listed_after other more sc = []

-- ---- blocks

-- what is listed under what was told: nothing if nothing was
abbrev pub under : {A : Type 0} → Option A → (A → List VariableLives) → List VariableLives
under None listing = []
under (Some one) listing = listing one

abbrev mutual
  -- the variables that are declared in a block
  pub listed_in : PlainStatements → Scope → List VariableLives
  listed_in no_statements sc = []
  listed_in (statements s more) sc =
      (listed_inside s sc ++ listed_after s more (after s sc)) ++ listed_in more (after s sc)

  -- Those inside of a statement: a variable that is declared for a block comes before those that the block
  -- declares. A `for` and a borrow statement have some only if their bounds or their reference have a type.
  pub listed_inside : PlainStatement → Scope → List VariableLives
  listed_inside (skip at) sc = []
  listed_inside (declare at binding name t e) sc = []
  listed_inside (destructure at binds e) sc = []
  listed_inside (assign at name fields e) sc = []
  listed_inside (assign_through at name fields e) sc = []
  listed_inside (conditional at bs) sc = listed_in_branches bs sc
  listed_inside (conditional_else at bs b) sc = listed_in_branches bs sc ++ listed_in b sc
  listed_inside (case_of at e all) sc = listed_in_arms all sc
  listed_inside (while_loop at e b) sc = listed_in b sc
  listed_inside (for_loop at name a z b) sc =
      under (told (bounds_type sc a z))
      (λ t. listed (with_variable (fixed_variable name.name t) sc) name b
      ++ listed_in b (with_variable (fixed_variable name.name t) sc))
  listed_inside (borrow_in at kind x r region b stop) sc =
      under (told (lent_reference sc kind x.name region.name))
      (λ t. listed (with_reference r.name region.name t sc) r b
      ++ listed_in b (with_reference r.name region.name t sc))
  listed_inside (borrow_typed at r t mode x b stop) sc =
      under (told (judge_borrow sc t mode x.name))
      (λ y. listed (with_reference r.name y.0 y.1 sc) r b
      ++ listed_in b (with_reference r.name y.0 y.1 sc))
  listed_inside (discard at e) sc = []
  listed_inside (return_of at e) sc = []

  -- those of the blocks of branches
  pub listed_in_branches : PlainBranches → Scope → List VariableLives
  listed_in_branches no_branches sc = []
  listed_in_branches (branches e b more) sc = listed_in b sc ++ listed_in_branches more sc

  -- those of arms: what an arm binds, and what its block declares
  pub listed_in_arms : PlainArms → Scope → List VariableLives
  listed_in_arms no_arms sc = []
  listed_in_arms (arms when' name binds b more) sc =
      (listed_binds (with_bound binds sc) binds b ++ listed_in b (with_bound binds sc))
      ++ listed_in_arms more sc

-- a variable that is declared for a block, and those that the block declares
abbrev pub listed_with : Placed Bytes → PlainStatements → Scope → List VariableLives
listed_with name b sc = listed sc name b ++ listed_in b sc

-- those of a `for`, if its bounds have a type
abbrev pub listed_for : Scope → Placed Bytes → PlainStatements → Option Meaning → List VariableLives
listed_for sc name b found =
    under found (λ t. listed_with name b (with_variable (fixed_variable name.name t) sc))

-- those of a borrow statement without a written type, if its reference has a type
abbrev pub listed_lent : Scope → Placed Bytes → Bytes → PlainStatements → Option Meaning → List VariableLives
listed_lent sc r region b found = under found (λ t. listed_with r b (with_reference r.name region t sc))

-- those of a borrow statement with a written type, if its reference has a region and a type
abbrev pub listed_typed : Scope → Placed Bytes → PlainStatements
    → Option (Bytes × Meaning) → List VariableLives
listed_typed sc r b found = under found (λ y. listed_with r b (with_reference r.name y.0 y.1 sc))

-- those of an arm
abbrev pub listed_arm : Scope → List (Bound Bytes) → PlainStatements → List VariableLives
listed_arm sc binds b = listed_binds (with_bound binds sc) binds b ++ listed_in b (with_bound binds sc)

-- ---- bodies

-- those of a function: its parameters, and those that its body declares
abbrev pub listed_of : List (Labelled Bytes) → PlainStatements → Scope → List VariableLives
listed_of parameters body sc = listed_parameters sc parameters body ++ listed_in body sc

-- the same of a header and a body, if there is the scope of the body
abbrev pub listed_where : Header Bytes → PlainStatements → Option Scope → List VariableLives
listed_where header body None = []
listed_where header body (Some sc) = listed_of header.parameters body sc

-- the same of a header and a body, with type parameters
abbrev pub variables_of : Outside → List (Constrained Bytes) → Header Bytes → PlainStatements
    → List VariableLives
variables_of outside generics header body =
    listed_where header body (told (body_scope outside generics header))
