-- Whatever is good of a statement or a block is found.
use Rattle.std.proofs.Common.{◌≡◌, Bool, true, false, ◌&&◌, ◌||◌, ◌∷◌, refl, sym, ap, ◌∙◌}
use Rattle.std.specs.Prelude.{Some, Ok}
use Rattle.au_syntax.specs.Statements.{skip, declare, destructure, assign, assign_through, conditional}
use Rattle.au_syntax.specs.Statements.{conditional_else, case_of, while_loop, for_loop, borrow_in}
use Rattle.au_syntax.specs.Statements.{borrow_typed, discard, return_of, no_statements, statements}
use Rattle.au_syntax.specs.Statements.{no_branches, branches, no_arms, arms}
use Rattle.au_typing.specs.Scopes.{Scope}
use Rattle.au_types.specs.Types as mean
use Rattle.au_typing.specs.Notes.{erase, type_of}
use Rattle.au_typing.specs.DerivationFaults.{◌then◌}
use Rattle.au_typing.specs.InScope.{after, fixed_variable, with_bound, with_reference, with_variable}
use Rattle.au_typing.specs.Parts.{borrow_type, heads_of, mode_for}
use Rattle.au_typing.specs.Returns.{arms_return, block_returns, branches_return, may_follow, returns}
use Rattle.au_typing.specs.DerivationSearch.{judge_next, note_arms, note_block, note_branches, note_case}
use Rattle.au_typing.specs.DerivationSearch.{note_statement}
use Rattle.au_typing.specs.Statements.{GoodArmBlocks, GoodBlock, GoodBranches, GoodStatement}
use Rattle.au_typing.specs.Trees.{NotedArms, NotedBranches, NotedStatement, NotedStatements, erase_arms}
use Rattle.au_typing.specs.Trees.{erase_block, erase_branches, erase_statement}
use Rattle.au_typing.proofs.PartLemmas.{assigned_found, borrow_found, bounds_found, case_found}
use Rattle.au_typing.proofs.PartLemmas.{declared_found, discarded_found, lent_found, put_found, taken_found}
use Rattle.au_typing.proofs.PartLemmas.{tests_found, tests_of, wants_found}
use Rattle.au_typing.proofs.StepLemmas.{judged_is, placed_from, then_from}

-- ---- what notes don't change

mutual
  pub returns_erased : (s : NotedStatement) → returns (erase_statement s) ≡ returns s
  returns_erased (return_of at e) = refl
  returns_erased (conditional_else at tests block) =
      ap (λ b. b && block_returns (erase_block block)) (branches_return_erased tests)
      ∙ ap (λ b. branches_return tests && b) (block_returns_erased block)
  returns_erased (case_of at e all) = arms_return_erased all
  returns_erased (borrow_in at kind x r region block stop) = block_returns_erased block
  returns_erased (borrow_typed at r t mode x block stop) = block_returns_erased block
  returns_erased s = refl

  pub block_returns_erased : (ss : NotedStatements) → block_returns (erase_block ss) ≡ block_returns ss
  block_returns_erased no_statements = refl
  block_returns_erased (statements s rest) =
      ap (λ b. b || block_returns (erase_block rest)) (returns_erased s)
      ∙ ap (λ b. returns s || b) (block_returns_erased rest)

  branches_return_erased : (all : NotedBranches) → branches_return (erase_branches all) ≡ branches_return all
  branches_return_erased no_branches = refl
  branches_return_erased (branches e block rest) =
      ap (λ b. b && branches_return (erase_branches rest)) (block_returns_erased block)
      ∙ ap (λ b. block_returns block && b) (branches_return_erased rest)

  arms_return_erased : (all : NotedArms) → arms_return (erase_arms all) ≡ arms_return all
  arms_return_erased no_arms = refl
  arms_return_erased (arms at n binds block rest) =
      ap (λ b. b && arms_return (erase_arms rest)) (block_returns_erased block)
      ∙ ap (λ b. block_returns block && b) (arms_return_erased rest)

pub after_erased : (s : NotedStatement) (sc : Scope) → after (erase_statement s) sc ≡ after s sc
after_erased (declare at binding name t e) sc = refl
after_erased (destructure at binds e) sc = refl
after_erased s sc = refl

pub heads_erased : (all : NotedArms) → heads_of (erase_arms all) ≡ heads_of all
heads_erased no_arms = refl
heads_erased (arms at n binds block rest) =
    ap (λ heads. record { name = n.name; binds = binds } ∷ heads) (heads_erased rest)

-- ---- statements and blocks

next_from : (has_returned : Bool) (rest : NotedStatements) → may_follow has_returned rest ≡ true
    → judge_next has_returned (erase_block rest) ≡ Ok tt
next_from true no_statements e = refl
next_from true (statements s rest) e = absurd cc
next_from false rest e = refl

next_found : (s : NotedStatement) (rest : NotedStatements) → may_follow (returns s) rest ≡ true
    → judge_next (returns (erase_statement s)) (erase_block rest) ≡ Ok tt
next_found s rest e =
    ap (λ b. judge_next b (erase_block rest)) (returns_erased s) ∙ next_from (returns s) rest e

mutual
  pub statement_found : (s : NotedStatement) (sc : Scope) → GoodStatement s sc
      → note_statement (erase_statement s) sc ≡ Ok s
  statement_found (skip at) sc g = refl
  statement_found (declare at binding name t e) sc g =
      then_from (λ a. Ok (declare at binding name t a))
      (placed_from at (declared_found sc t e g)) refl
  statement_found (destructure at binds e) sc g =
      then_from (λ a. Ok (destructure at binds a)) (placed_from at (taken_found sc binds e g)) refl
  statement_found (assign at x path e) sc g =
      then_from (λ a. Ok (assign at x path a))
      (placed_from at (assigned_found sc x.name path e g)) refl
  statement_found (assign_through at r path e) sc g =
      then_from (λ a. Ok (assign_through at r path a))
      (placed_from at (put_found sc r.name path e g)) refl
  statement_found (conditional at tests) sc g =
      then_from (λ noted. note_branches (erase_branches tests) noted sc then λ all. Ok (conditional at all))
      (placed_from at (tests_found sc tests g))
      (then_from (λ all. Ok (conditional at all)) (branches_found tests sc g) refl)
  statement_found (conditional_else at tests block) sc g =
      then_from
      (λ noted. note_branches (erase_branches tests) noted sc
      then λ all. note_block (erase_block block) sc then λ b. Ok (conditional_else at all b))
      (placed_from at (tests_found sc tests g.0))
      (then_from (λ all. note_block (erase_block block) sc then λ b. Ok (conditional_else at all b))
      (branches_found tests sc g.0)
      (then_from (λ b. Ok (conditional_else at tests b)) (block_found block sc g.1) refl))
  statement_found (case_of at e all) sc g =
      then_from (λ a. note_arms (erase_arms all) sc then λ noted. Ok (case_of at a noted))
      (placed_from at
      (ap (note_case sc (erase e)) (heads_erased all) ∙ case_found sc e (heads_of all) g.0))
      (then_from (λ noted. Ok (case_of at e noted)) (arms_found all sc g.1) refl)
  statement_found (while_loop at e block) sc g =
      then_from (λ a. note_block (erase_block block) sc then λ b. Ok (while_loop at a b))
      (placed_from at (wants_found sc e (Some mean.truth) g.0))
      (then_from (λ b. Ok (while_loop at e b)) (block_found block sc g.1) refl)
  statement_found (for_loop at name first last block) sc g =
      then_from
      (λ y. note_block (erase_block block) (with_variable (fixed_variable name.name (type_of y.0)) sc)
      then λ b. Ok (for_loop at name y.0 y.1 b))
      (placed_from at (bounds_found sc first last g.0))
      (then_from (λ b. Ok (for_loop at name first last b))
      (block_found block (with_variable (fixed_variable name.name (type_of first)) sc) g.1) refl)
  statement_found (borrow_in at kind x r region block stop) sc g =
      then_from
      (λ of. note_block (erase_block block)
      (with_reference r.name region.name (borrow_type (mode_for kind) region.name of) sc)
      then λ b. Ok (borrow_in at kind x r region b stop))
      (placed_from at (lent_found sc (mode_for kind) x.name g.0 g.1))
      (then_from (λ b. Ok (borrow_in at kind x r region b stop))
      (block_found block (with_reference r.name region.name (borrow_type
      (mode_for kind) region.name g.0) sc) g.2)
      refl)
  statement_found (borrow_typed at r t mode x block stop) sc g =
      then_from
      (λ y. note_block (erase_block block) (with_reference r.name y.0 y.1 sc)
      then λ b. Ok (borrow_typed at r t mode x b stop))
      (placed_from at (borrow_found sc t mode x.name g.0 g.1 g.2))
      (then_from (λ b. Ok (borrow_typed at r t mode x b stop))
      (block_found block (with_reference r.name g.0 g.1 sc) g.3) refl)
  statement_found (discard at e) sc g =
      then_from (λ a. Ok (discard at a)) (placed_from at (discarded_found sc e g.0 g.1)) refl
  statement_found (return_of at e) sc g =
      then_from (λ a. Ok (return_of at a))
      (placed_from at (wants_found sc e (Some sc.result) g)) refl

  pub block_found : (ss : NotedStatements) (sc : Scope) → GoodBlock ss sc
      → note_block (erase_block ss) sc ≡ Ok ss
  block_found no_statements sc g = refl
  block_found (statements s rest) sc g =
      then_from
      (λ a. judge_next (returns (erase_statement s)) (erase_block rest)
      then λ may. note_block (erase_block rest) (after (erase_statement s) sc)
      then λ all. Ok (statements a all))
      (statement_found s sc g.0)
      (then_from
      (λ may. note_block (erase_block rest) (after (erase_statement s) sc) then λ all. Ok (statements s all))
      (next_found s rest g.1)
      (then_from (λ all. Ok (statements s all))
      (ap (note_block (erase_block rest)) (after_erased s sc) ∙ block_found rest (after s sc) g.2) refl))

  branches_found : (all : NotedBranches) (sc : Scope) → GoodBranches all sc
      → note_branches (erase_branches all) (tests_of all) sc ≡ Ok all
  branches_found no_branches sc g = refl
  branches_found (branches e block rest) sc g =
      then_from
      (λ b. note_branches (erase_branches rest) (tests_of rest) sc then λ all. Ok (branches e b all))
      (block_found block sc g.1)
      (then_from (λ all. Ok (branches e block all)) (branches_found rest sc g.2) refl)

  arms_found : (all : NotedArms) (sc : Scope) → GoodArmBlocks all sc
      → note_arms (erase_arms all) sc ≡ Ok all
  arms_found no_arms sc g = refl
  arms_found (arms at n binds block rest) sc g =
      then_from (λ b. note_arms (erase_arms rest) sc then λ all. Ok (arms at n binds b all))
      (block_found block (with_bound binds sc) g.0)
      (then_from (λ all. Ok (arms at n binds block all)) (arms_found rest sc g.1) refl)

-- ---- so there are no two

pub two_statements : (a b : NotedStatement) (sc : Scope) → GoodStatement a sc → GoodStatement b sc
    → erase_statement a ≡ erase_statement b → a ≡ b
two_statements a b sc g h e =
    judged_is a b
    (sym (statement_found a sc g) ∙ (ap (λ s. note_statement s sc) e ∙ statement_found b sc h))

pub two_blocks : (a b : NotedStatements) (sc : Scope) → GoodBlock a sc → GoodBlock b sc
    → erase_block a ≡ erase_block b → a ≡ b
two_blocks a b sc g h e =
    judged_is a b (sym (block_found a sc g) ∙ (ap (λ s. note_block s sc) e ∙ block_found b sc h))
