-- Each call of a good block is good by the rule of calls, in a scope with what is outside of the function and
-- with its type parameters.
use Rattle.std.proofs.Common.{◌≡◌, ◌⊎◌, inl, inr, Bool, false, List, [], ◌∷◌, ◌++◌, Ok, Err, subst}
use Rattle.std.specs.Prelude.{Contains}
use Rattle.std.proofs.lemmas.List.Elements.{Contains-append_cases}
use Rattle.au_base.proofs.ListLemmas.{nothing_there, Contains-cases}
use Rattle.au_syntax.specs.Expressions.{number, negative, text, truth, nil, path, arrow, call, named_call}
use Rattle.au_syntax.specs.Expressions.{parenthesized, dereference, borrow, borrow_part, binary, negation}
use Rattle.au_syntax.specs.Expressions.{typed, choice, no_expressions, expressions, no_arguments, arguments}
use Rattle.au_syntax.specs.Plain.{Bytes}
use Rattle.au_syntax.specs.Statements.{skip, declare, destructure, assign, assign_through, conditional}
use Rattle.au_syntax.specs.Statements.{conditional_else, case_of, while_loop, for_loop, borrow_in}
use Rattle.au_syntax.specs.Statements.{borrow_typed, discard, return_of, no_statements, statements}
use Rattle.au_syntax.specs.Statements.{no_branches, branches, no_arms, arms}
use Rattle.au_syntax.specs.Types.{Bound}
use Rattle.au_types.specs.Types.{Meaning}
use Rattle.au_judged_types.specs.Bounds.{Bounded}
use Rattle.au_names.specs.Importing.{given_name}
use Rattle.au_typing.specs.Scopes.{Outside, Scope}
use Rattle.au_typing.specs.Calls.{in_order, by_labels}
use Rattle.au_typing.specs.Faults.{Noting}
use Rattle.au_typing.specs.Good.{AllGood, AllGoodIn, AllGoodLabelled, count_of, items_of, labels_of, shown, values_of}
use Rattle.au_typing.specs.Lookups.{written_type}
use Rattle.au_typing.specs.Notes.{Note, NotedArguments, NotedExpression, NotedExpressions, type_of}
use Rattle.au_typing.specs.InScope.{after, fixed_variable, is_var, with_bound, with_reference, with_typed}
use Rattle.au_typing.specs.InScope.{with_variable}
use Rattle.au_typing.specs.Parts.{borrow_type, mode_for}
use Rattle.au_typing.specs.Statements.{GoodArmBlocks, GoodBlock, GoodBranches, GoodStatement}
use Rattle.au_typing.specs.Trees.{NotedArms, NotedBranches, NotedStatement, NotedStatements}
use Rattle.au_closed_trees.specs.Calls.{calls_in, calls_in_all, calls_in_arguments, calls_in_arms}
use Rattle.au_closed_trees.specs.Calls.{calls_in_block, calls_in_branches, calls_in_statement}
use Rattle.au_closing_laws.specs.Targets.{Call}
use Rattle.au_closing_laws.specs.Calls.{IsGoodCall}

-- a call, as it is listed
abbrev listed : Note → Unit {0} → Bytes → List Call
listed note c name = (note, name) ∷ []

either : {A : Type 0} (xs ys : List A) (x : A) {P : Type 0} → (Contains xs x → P) → (Contains ys x → P) →
    Contains (xs ++ ys) x → P
either xs ys x {P} left right there = by (Contains-append_cases xs ys x there)
  where
    by : Contains xs x ⊎ Contains ys x → P
    by (inl here) = left here
    by (inr behind) = right behind

-- a scope has this outside and these type parameters
abbrev pub IsWithin : Outside → List Bounded → Scope → Type 0
IsWithin outside generics sc = (sc.outside ≡ outside) × (sc.generics ≡ generics)

module _ (outside : Outside) (generics : List Bounded) where
  abbrev IsGoodThere : Call → Type 0
  IsGoodThere one = IsGoodCall outside generics one

  -- ---- expressions

  module _ (sc : Scope) (within : IsWithin outside generics sc) where
    mutual
      in_expression : (e : NotedExpression) → AllGood sc e → (one : Call) → Contains (calls_in listed e) one →
          IsGoodThere one
      in_expression (call n f es c) good one there =
          by (Contains-cases (n.note, f.name) (calls_in_all listed es) one there) (in_all es good.1 one)
        where
          by : ((n.note, f.name) ≡ one) ⊎ Contains (calls_in_all listed es) one →
              (Contains (calls_in_all listed es) one → IsGoodThere one) → IsGoodThere one
          by (inl is) later = subst IsGoodThere is
              (record {
                scope = sc;
                of_outside = within.0;
                of_generics = within.1;
                takes =
                    in_order (count_of es);
                args = shown (items_of es);
                good = good.0;
              })
          by (inr behind) later = later behind
      in_expression (named_call n f es c) good one there =
          by (Contains-cases (n.note, f.name) (calls_in_arguments listed es) one there) (in_arguments es good.1 one)
        where
          by : ((n.note, f.name) ≡ one) ⊎ Contains (calls_in_arguments listed es) one →
              (Contains (calls_in_arguments listed es) one → IsGoodThere one) → IsGoodThere one
          by (inl is) later = subst IsGoodThere is
              (record {
                scope = sc;
                of_outside = within.0;
                of_generics = within.1;
                takes =
                    by_labels (labels_of es);
                args = shown (values_of es);
                good = good.0;
              })
          by (inr behind) later = later behind
      in_expression (parenthesized n e) good one there = in_expression e good.2 one there
      in_expression (dereference n e) good one there = in_expression e good.2 one there
      in_expression (binary n op a b) good one there =
          either (calls_in listed a) (calls_in listed b) one (in_expression a good.2 one)
          (in_expression b good.3 one) there
      in_expression (negation n e) good one there = in_expression e good.2 one there
      in_expression (typed n e t) good one there = in_expression e good.2 one there
      in_expression (choice n c a b) good one there =
          either (calls_in listed c ++ calls_in listed a) (calls_in listed b) one
          (either (calls_in listed c) (calls_in listed a) one (in_expression c good.2 one)
          (in_expression a good.3 one)) (in_expression b good.4 one) there
      in_expression (number n l) good one there = absurd (nothing_there one there)
      in_expression (negative n l) good one there = absurd (nothing_there one there)
      in_expression (text n t) good one there = absurd (nothing_there one there)
      in_expression (truth n b) good one there = absurd (nothing_there one there)
      in_expression (nil n) good one there = absurd (nothing_there one there)
      in_expression (path n x fields) good one there = absurd (nothing_there one there)
      in_expression (arrow n x fields) good one there = absurd (nothing_there one there)
      in_expression (borrow n m x) good one there = absurd (nothing_there one there)
      in_expression (borrow_part n x fields) good one there = absurd (nothing_there one there)

      in_all : (es : NotedExpressions) → AllGoodIn sc es → (one : Call) →
          Contains (calls_in_all listed es) one → IsGoodThere one
      in_all no_expressions good one there = absurd (nothing_there one there)
      in_all (expressions e rest) good one there =
          either (calls_in listed e) (calls_in_all listed rest) one (in_expression e good.0 one)
          (in_all rest good.1 one) there

      in_arguments : (es : NotedArguments) → AllGoodLabelled sc es → (one : Call) →
          Contains (calls_in_arguments listed es) one → IsGoodThere one
      in_arguments no_arguments good one there = absurd (nothing_there one there)
      in_arguments (arguments label e rest) good one there =
          either (calls_in listed e) (calls_in_arguments listed rest) one (in_expression e good.0 one)
          (in_arguments rest good.1 one) there

  -- ---- scopes behind statements

  typed_within : (name : Bytes) (assignable : Bool) (o : Noting Meaning) (sc : Scope) →
      IsWithin outside generics sc → IsWithin outside generics (with_typed name assignable o sc)
  typed_within name assignable (Ok t) sc within = within
  typed_within name assignable (Err fault) sc within = within

  bound_within : (binds : List (Bound Bytes)) (sc : Scope) → IsWithin outside generics sc →
      IsWithin outside generics (with_bound binds sc)
  bound_within [] sc within = within
  bound_within (b ∷ rest) sc within =
      bound_within rest (with_typed (given_name b.name) false (written_type sc b.of) sc)
      (typed_within (given_name b.name) false (written_type sc b.of) sc within)

  after_within : (s : NotedStatement) (sc : Scope) → IsWithin outside generics sc →
      IsWithin outside generics (after s sc)
  after_within (declare at binding name t e) sc within = typed_within name.name (is_var binding)
      (written_type sc t) sc within
  after_within (destructure at binds e) sc within = bound_within binds sc within
  after_within (skip at) sc within = within
  after_within (assign at x fields e) sc within = within
  after_within (assign_through at x fields e) sc within = within
  after_within (conditional at tests) sc within = within
  after_within (conditional_else at tests b) sc within = within
  after_within (case_of at e all) sc within = within
  after_within (while_loop at e b) sc within = within
  after_within (for_loop at n a z b) sc within = within
  after_within (borrow_in at access x r region b stop) sc within = within
  after_within (borrow_typed at r t mode x b stop) sc within = within
  after_within (discard at e) sc within = within
  after_within (return_of at e) sc within = within

  -- ---- statements

  mutual
    in_statement : (s : NotedStatement) (sc : Scope) → IsWithin outside generics sc → GoodStatement s sc →
        (one : Call) → Contains (calls_in_statement listed s) one → IsGoodThere one
    in_statement (declare at b n t e) sc within good one there = in_expression sc within e good.wants.0 one there
    in_statement (destructure at binds e) sc within good one there = in_expression sc within e good.wants.0 one there
    in_statement (assign at n fields e) sc within good one there = in_expression sc within e good.wants.0 one there
    in_statement (assign_through at n fields e) sc within good one there =
        in_expression sc within e good.wants.0 one there
    in_statement (conditional at tests) sc within good one there = in_branches tests sc within good one there
    in_statement (conditional_else at tests b) sc within good one there =
        either (calls_in_branches listed tests) (calls_in_block listed b) one
        (in_branches tests sc within good.0 one) (in_block b sc within good.1 one) there
    in_statement (case_of at e all) sc within good one there =
        either (calls_in listed e) (calls_in_arms listed all) one
        (in_expression sc within e good.0.wants.0 one) (in_arms all sc within good.1 one) there
    in_statement (while_loop at e b) sc within good one there =
        either (calls_in listed e) (calls_in_block listed b) one (in_expression sc within e good.0.0 one)
        (in_block b sc within good.1 one) there
    in_statement (for_loop at n a z b) sc within good one there =
        either (calls_in listed a ++ calls_in listed z) (calls_in_block listed b) one
        (either (calls_in listed a) (calls_in listed z) one (in_expression sc within a good.0.good_first one)
        (in_expression sc within z good.0.good_last one))
        (in_block b (with_variable (fixed_variable n.name (type_of a)) sc) within good.1 one) there
    in_statement (borrow_in at access x r region b stop) sc within good one there =
        in_block b (with_reference r.name region.name (borrow_type (mode_for access) region.name good.0) sc)
        within good.2 one there
    in_statement (borrow_typed at r t mode x b stop) sc within good one there =
        in_block b (with_reference r.name good.0 good.1 sc) within good.3 one there
    in_statement (discard at e) sc within good one there = in_expression sc within e good.0.0 one there
    in_statement (return_of at e) sc within good one there = in_expression sc within e good.0 one there
    in_statement (skip at) sc within good one there = absurd (nothing_there one there)

    pub in_block : (b : NotedStatements) (sc : Scope) → IsWithin outside generics sc → GoodBlock b sc →
        (one : Call) → Contains (calls_in_block listed b) one → IsGoodThere one
    in_block no_statements sc within good one there = absurd (nothing_there one there)
    in_block (statements s rest) sc within good one there =
        either (calls_in_statement listed s) (calls_in_block listed rest) one (in_statement s sc within good.0 one)
        (in_block rest (after s sc) (after_within s sc within) good.2 one) there

    in_branches : (tests : NotedBranches) (sc : Scope) → IsWithin outside generics sc →
        GoodBranches tests sc → (one : Call) → Contains (calls_in_branches listed tests) one → IsGoodThere one
    in_branches no_branches sc within good one there = absurd (nothing_there one there)
    in_branches (branches e b rest) sc within good one there =
        either (calls_in listed e ++ calls_in_block listed b) (calls_in_branches listed rest) one
        (either (calls_in listed e) (calls_in_block listed b) one (in_expression sc within e good.0.0 one)
        (in_block b sc within good.1 one))
        (in_branches rest sc within good.2 one) there

    in_arms : (all : NotedArms) (sc : Scope) → IsWithin outside generics sc → GoodArmBlocks all sc →
        (one : Call) → Contains (calls_in_arms listed all) one → IsGoodThere one
    in_arms no_arms sc within good one there = absurd (nothing_there one there)
    in_arms (arms at n binds b rest) sc within good one there =
        either (calls_in_block listed b) (calls_in_arms listed rest) one
        (in_block b (with_bound binds sc) (bound_within binds sc within) good.0 one)
        (in_arms rest sc within good.1 one) there
