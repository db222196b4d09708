-- What holds of each expression and of each name in a body, put together from two such things.
use Rattle.std.proofs.Common.{ℕ, ◌+◌, List, [], ◌∷◌, length, Option, Some}
use Rattle.au_meaning.specs.Expressions.{note_of}
use Rattle.au_meaning.specs.Names.{Scope, bound_name, mode_of, names_in, names_in_block, names_in_tests}
use Rattle.au_meaning.specs.Names.{variable_of}
use Rattle.au_meaning.specs.Names.{with_bound, with_name, with_reference}
use Rattle.au_meaning.specs.Statements.{after, fields_noted, fields_told, with_counter}
use Rattle.au_meaning.specs.Views.{Field, View}
use Rattle.au_syntax.specs.Expressions.{Expression}
use Rattle.au_syntax.specs.Plain.{Bytes}
use Rattle.au_syntax.specs.Types.{Bound}
use Rattle.au_syntax.specs.Statements.{Statement, Statements, Branches, Arms, skip, declare, destructure}
use Rattle.au_syntax.specs.Statements.{assign, assign_through, conditional, conditional_else, case_of}
use Rattle.au_syntax.specs.Statements.{while_loop, for_loop, borrow_in, borrow_typed, discard, return_of}
use Rattle.au_syntax.specs.Statements.{no_statements, statements, no_branches, branches, no_arms, arms}
use Rattle.au_judged_bodies.specs.Parts.{Declares, Each, EachArm, EachBound, EachIn, EachParameter, EachTest}

module _ {I T C : Type 0} (see : View I T C) (E F G : Scope → Expression Bytes T C → Type 0)
    (D N M : ℕ → Scope → Bytes → Statements Bytes T C → Type 0)
    (said : (scope : Scope) (e : Expression Bytes T C) → E scope e → F scope e → G scope e)
    (named : (number : ℕ) (scope : Scope) (x : Bytes) (b : Statements Bytes T C) → D number scope x b
    → N number scope x b
    → M number scope x b) where
  pub both_parameters : (number : ℕ) (scope : Scope) (given : List Field) (block : Statements Bytes T C)
      → EachParameter see E D number scope given block → EachParameter see F N number scope given block
      → EachParameter see G M number scope given block
  both_parameters number scope [] block a b = tt
  both_parameters number scope (p ∷ rest) block a b = (
    named number scope p.name block a.0 b.0,
    both_parameters (number + 1) (with_name p.name number (Some p.of) scope) rest block a.1 b.1,
  )

  both_bound : (fields : Option (List Field)) (number : ℕ) (scope : Scope) (binds : List (Bound Bytes))
      (block : Statements Bytes T C) → EachBound see E D fields number scope binds block
      → EachBound see F N fields number scope binds block → EachBound see G M fields number scope binds block
  both_bound fields number scope [] block a b = tt
  both_bound fields number scope (one ∷ rest) block a b = (
    named number scope (bound_name one.name) block a.0 b.0,
    both_bound fields (number + 1) (with_bound fields number (one ∷ []) scope) rest block a.1 b.1,
  )

  both_declared : (number : ℕ) (scope : Scope) (s : Statement Bytes T C) (rest : Statements Bytes T C)
      → Declares see E D number scope s rest → Declares see F N number scope s rest
      → Declares see G M number scope s rest
  both_declared number scope (declare at binding x t e) rest a b = named number scope x.name rest a b
  both_declared number scope (destructure at binds e) rest a b =
      both_bound (fields_noted see (note_of e)) number scope binds rest a b
  both_declared number scope other rest a b = tt

  mutual
    both : (number : ℕ) (scope : Scope) (s : Statement Bytes T C) → Each see E D number scope s
        → Each see F N number scope s → Each see G M number scope s
    both number scope (skip at) a b = tt
    both number scope (declare at binding x t e) a b = said scope e a b
    both number scope (destructure at binds e) a b = said scope e a b
    both number scope (assign at x fields e) a b = said scope e a b
    both number scope (assign_through at r fields e) a b = said scope e a b
    both number scope (conditional at tests) a b = both_tests number scope tests a b
    both number scope (conditional_else at tests block) a b = (
      both_tests number scope tests a.0 b.0,
      both_in (number + names_in_tests tests) scope block a.1 b.1,
    )
    both number scope (case_of at e all) a b =
        (said scope e a.0 b.0, both_arms number scope (note_of e) all a.1 b.1)
    both number scope (while_loop at e block) a b = (said scope e a.0 b.0, both_in number scope block a.1 b.1)
    both number scope (for_loop at x first last block) a b = (
      said scope first a.0 b.0,
      said scope last a.1 b.1,
      named number scope x.name block a.2 b.2,
      both_in (number + 1) (with_counter see number x.name first scope) block a.3 b.3,
    )
    both number scope (borrow_in at access x r region block stop) a b = (
      named number scope r.name block a.0 b.0,
      both_in (number + 1) (with_reference (mode_of access)
          (variable_of scope x.name) number r.name scope) block a.1
          b.1,
    )
    both number scope (borrow_typed at r t m x block stop) a b = (
      named number scope r.name block a.0 b.0,
      both_in (number + 1) (with_reference m (variable_of scope x.name) number r.name scope) block a.1 b.1,
    )
    both number scope (discard at e) a b = said scope e a b
    both number scope (return_of at e) a b = said scope e a b

    pub both_in : (number : ℕ) (scope : Scope) (block : Statements Bytes T C)
        → EachIn see E D number scope block
        → EachIn see F N number scope block → EachIn see G M number scope block
    both_in number scope no_statements a b = tt
    both_in number scope (statements s rest) a b = (
      both number scope s a.0 b.0,
      both_declared number scope s rest a.1 b.1,
      both_in (number + names_in s) (after see number s scope) rest a.2 b.2,
    )

    both_tests : (number : ℕ) (scope : Scope) (tests : Branches Bytes T C)
        → EachTest see E D number scope tests
        → EachTest see F N number scope tests → EachTest see G M number scope tests
    both_tests number scope no_branches a b = tt
    both_tests number scope (branches e block rest) a b = (
      said scope e a.0 b.0,
      both_in number scope block a.1 b.1,
      both_tests (number + names_in_block block) scope rest a.2 b.2,
    )

    both_arms : (number : ℕ) (scope : Scope) (note : T) (all : Arms Bytes T C)
        → EachArm see E D number scope note all
        → EachArm see F N number scope note all → EachArm see G M number scope note all
    both_arms number scope note no_arms a b = tt
    both_arms number scope note (arms at name binds block rest) a b = (
      λ tag. (
        both_bound (fields_told see note tag) number scope binds block (a.0 tag).0 (b.0 tag).0,
        both_in (number + length binds) (with_bound (fields_told see note tag) number binds scope) block
            (a.0 tag).1
            (b.0 tag).1,
      ),
      both_arms (number + (length binds + names_in_block block)) scope note rest a.1 b.1,
    )
