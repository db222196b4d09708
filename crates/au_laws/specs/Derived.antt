-- What the types ask that the variables of a derived body have in scope by the rules of typing.
use Rattle.std.specs.Prelude.{◌-◌, List, [], ◌++◌, map, reverse, take, length, if◌then◌else◌}
use Rattle.au_lives.specs.declared.lives.Sort.{Sort}
use Rattle.au_lives.specs.declared.lives.Sort.TheVariants as asks
use Rattle.au_typing.specs.Scopes.{Outside, Scope, Variable}
use Rattle.au_syntax.specs.Statements.{skip, declare, destructure, assign, assign_through, conditional}
use Rattle.au_syntax.specs.Statements.{conditional_else, case_of, while_loop, for_loop, borrow_in}
use Rattle.au_syntax.specs.Statements.{borrow_typed, discard, return_of, no_statements, statements}
use Rattle.au_syntax.specs.Statements.{no_branches, branches, no_arms, arms}
use Rattle.au_typing.specs.Notes.{type_of}
use Rattle.au_typing.specs.Bodies.{GoodBody, generics_in, outer_scope}
use Rattle.au_typing.specs.InScope.{after, fixed_variable, with_bound, with_reference, with_variable}
use Rattle.au_typing.specs.Parts.{borrow_type, mode_for}
use Rattle.au_typing.specs.Statements.{GoodStatement, GoodBlock, GoodBranches, GoodArmBlocks}
use Rattle.au_typing.specs.Trees.{NotedStatement, NotedStatements, NotedBranches, NotedArms}
use Rattle.au_program_lives.specs.Scopes.{TypeScope}
use Rattle.au_program_lives.specs.Sorts.{held_sort}
use Rattle.au_syntax.specs.Modules.{Constrained, Header}
use Rattle.au_syntax.specs.Plain.{Bytes}
use Rattle.au_types.specs.Types.{Meaning}
use Rattle.au_typing.specs.Lookups.{is_free_in, parameters_in}

-- what written types are judged by in a scope
abbrev pub types_in : Scope → TypeScope
types_in sc = record {
  regions = sc.regions;
  params = parameters_in sc;
  visible = sc.outside.visible;
  heads = sc.outside.heads;
}

-- what they are judged by in a function with these type parameters, outside of all borrow statements
abbrev pub types_over : Outside → List (Constrained Bytes) → TypeScope
types_over outside generics = types_in (outer_scope outside (generics_in outside generics))

-- what a type asks in a scope
abbrev pub asked_in : Scope → Meaning → Sort
asked_in sc t = if is_free_in sc t then asks.Free else held_sort t

-- the variables that a scope has beyond those of another, the first one that was declared first
abbrev pub declared_beyond : Scope → Scope → List Variable
declared_beyond inner outer =
    reverse (take (length inner.variables - length outer.variables) inner.variables)

-- what the types of variables ask
abbrev pub sorts_of_types : Scope → List Variable → List Sort
sorts_of_types sc variables = map (λ (one : Variable). asked_in sc one.of) variables

-- what those ask that a scope has beyond another
abbrev pub sorts_beyond : Scope → Scope → List Sort
sorts_beyond inner outer = sorts_of_types outer (declared_beyond inner outer)

abbrev mutual
  -- the variables of a block, each by the scope that has it first
  pub derived_sorts : (b : NotedStatements) (sc : Scope) → GoodBlock b sc → List Sort
  derived_sorts no_statements sc good = []
  derived_sorts (statements s rest) sc good =
      sorts_beyond (after s sc) sc ++ (derived_inside s sc good.0 ++ derived_sorts rest (after s sc) good.2)

  -- those inside of a statement
  pub derived_inside : (s : NotedStatement) (sc : Scope) → GoodStatement s sc → List Sort
  derived_inside (skip at) sc good = []
  derived_inside (declare at binding name t e) sc good = []
  derived_inside (destructure at binds e) sc good = []
  derived_inside (assign at x path e) sc good = []
  derived_inside (assign_through at r path e) sc good = []
  derived_inside (conditional at tests) sc good = derived_branches tests sc good
  derived_inside (conditional_else at tests block) sc good =
      derived_branches tests sc good.0 ++ derived_sorts block sc good.1
  derived_inside (case_of at e all) sc good = derived_arms all sc good.1
  derived_inside (while_loop at e block) sc good = derived_sorts block sc good.1
  derived_inside (for_loop at name first last block) sc good =
      sorts_beyond (with_variable (fixed_variable name.name (type_of first)) sc) sc
      ++ derived_sorts block (with_variable (fixed_variable name.name (type_of first)) sc) good.1
  derived_inside (borrow_in at kind x r region block stop) sc good =
      sorts_beyond (with_reference r.name region.name (borrow_type (mode_for kind) region.name good.0) sc) sc
      ++ derived_sorts block
      (with_reference r.name region.name (borrow_type (mode_for kind) region.name good.0) sc) good.2
  derived_inside (borrow_typed at r t mode x block stop) sc good =
      sorts_beyond (with_reference r.name good.0 good.1 sc) sc
      ++ derived_sorts block (with_reference r.name good.0 good.1 sc) good.3
  derived_inside (discard at e) sc good = []
  derived_inside (return_of at e) sc good = []

  -- those of the blocks of branches
  pub derived_branches : (all : NotedBranches) (sc : Scope) → GoodBranches all sc → List Sort
  derived_branches no_branches sc good = []
  derived_branches (branches e block rest) sc good =
      derived_sorts block sc good.1 ++ derived_branches rest sc good.2

  -- those of arms
  pub derived_arms : (all : NotedArms) (sc : Scope) → GoodArmBlocks all sc → List Sort
  derived_arms no_arms sc good = []
  derived_arms (arms at n binds block rest) sc good =
      sorts_beyond (with_bound binds sc) sc
      ++ (derived_sorts block (with_bound binds sc) good.0 ++ derived_arms rest sc good.1)

-- The variables of a function: its parameters, which are those of the scope of its body, and those that its
-- body declares.
abbrev pub function_sorts : (outside : Outside) (generics : List (Constrained Bytes)) (header : Header Bytes)
    (body : NotedStatements) → GoodBody outside generics header body → List Sort
function_sorts outside generics header body good =
    sorts_of_types good.scope (reverse good.scope.variables) ++ derived_sorts body good.scope good.good
