-- What the calls of a block lead to, call by call.
use Rattle.std.proofs.Common.{◌≡◌, ◌⊎◌, inl, inr, Bool, List, [], ◌∷◌, ◌++◌, refl, sym, ap, ◌∙◌}
use Rattle.std.specs.Prelude.{Contains}
use Rattle.std.specs.List.{flat_map}
use Rattle.std.proofs.lemmas.Grind.{flat_map-append}
use Rattle.au_base.proofs.ListLemmas.{Contains-first, Contains-rest}
use Rattle.au_syntax.specs.Expressions.{Expression, Expressions, Arguments, call, named_call, parenthesized}
use Rattle.au_syntax.specs.Expressions.{dereference, binary, negation, typed, choice, no_expressions}
use Rattle.au_syntax.specs.Expressions.{expressions, no_arguments, arguments}
use Rattle.au_syntax.specs.Plain.{Bytes}
use Rattle.au_syntax.specs.Statements.{Statement, Statements, Branches, Arms, declare, destructure, assign}
use Rattle.au_syntax.specs.Statements.{assign_through, conditional, conditional_else, case_of, while_loop}
use Rattle.au_syntax.specs.Statements.{for_loop, borrow_in, borrow_typed, discard, return_of, no_statements}
use Rattle.au_syntax.specs.Statements.{statements, no_branches, branches, no_arms, arms}
use Rattle.au_typing.specs.Notes.{Note}
use Rattle.au_graphs.specs.Reached.{Has}
use Rattle.au_graphs.proofs.HasLemmas.{has_split}
use Rattle.au_closed_trees.specs.Calls.{calls_in, calls_in_all, calls_in_arguments, calls_in_statement}
use Rattle.au_closed_trees.specs.Calls.{calls_in_block, calls_in_branches, calls_in_arms}
use Rattle.au_closing_laws.specs.Targets.{Call}

-- a call as a list
abbrev pub one_call : Note → Unit {0} → Bytes → List Call
one_call note c name = (note, name) ∷ []

module _ {A : Type 0} (leads : Note → Unit {0} → Bytes → List A) where
  abbrev at_call : Call → List A
  at_call one = leads one.0 tt one.1

  abbrev flat : List Call → List A
  flat calls = flat_map at_call calls

  -- two lists joined, and three
  two : (us vs : List Call) (xs ys : List A) → xs ≡ flat us → ys ≡ flat vs → xs ++ ys ≡ flat (us ++ vs)
  two us vs xs ys first second = (λ i. first i ++ second i) ∙ sym (flat_map-append at_call us vs)

  three : (us vs ws : List Call) (xs ys zs : List A) → xs ≡ flat us → ys ≡ flat vs → zs ≡ flat ws
      → xs ++ ys ++ zs ≡ flat (us ++ vs ++ ws)
  three us vs ws xs ys zs first second third =
      two (us ++ vs) ws (xs ++ ys) zs (two us vs xs ys first second) third

  mutual
    in_expression : (e : Expression Bytes Note (Unit {0})) → calls_in leads e ≡ flat (calls_in one_call e)
    in_expression (call n f es c) = ap (λ l. leads n.note c f.name ++ l) (in_all es)
    in_expression (named_call n f es c) = ap (λ l. leads n.note c f.name ++ l) (in_arguments es)
    in_expression (parenthesized n e) = in_expression e
    in_expression (dereference n e) = in_expression e
    in_expression (binary n op a b) =
        two (calls_in one_call a) (calls_in one_call b) (calls_in leads a) (calls_in leads b)
        (in_expression a) (in_expression b)
    in_expression (negation n e) = in_expression e
    in_expression (typed n e t) = in_expression e
    in_expression (choice n c a b) =
        three (calls_in one_call c) (calls_in one_call a) (calls_in one_call b) (calls_in leads c) (calls_in leads a)
        (calls_in leads b) (in_expression c) (in_expression a) (in_expression b)
    in_expression e = refl

    in_all : (es : Expressions Bytes Note (Unit {0})) → calls_in_all leads es ≡ flat (calls_in_all one_call es)
    in_all no_expressions = refl
    in_all (expressions e rest) =
        two (calls_in one_call e) (calls_in_all one_call rest) (calls_in leads e) (calls_in_all leads rest)
        (in_expression e) (in_all rest)

    in_arguments : (es : Arguments Bytes Note (Unit {0})) → calls_in_arguments leads es
        ≡ flat (calls_in_arguments one_call es)
    in_arguments no_arguments = refl
    in_arguments (arguments label e rest) =
        two (calls_in one_call e) (calls_in_arguments one_call rest) (calls_in leads e) (calls_in_arguments leads rest)
        (in_expression e) (in_arguments rest)

  mutual
    in_statement : (s : Statement Bytes Note (Unit {0})) → calls_in_statement leads s
        ≡ flat (calls_in_statement one_call s)
    in_statement (declare at b n t e) = in_expression e
    in_statement (destructure at binds e) = in_expression e
    in_statement (assign at n fields e) = in_expression e
    in_statement (assign_through at n fields e) = in_expression e
    in_statement (conditional at tests) = in_branches tests
    in_statement (conditional_else at tests b) =
        two (calls_in_branches one_call tests) (calls_in_block one_call b) (calls_in_branches leads tests)
        (calls_in_block leads b) (in_branches tests) (in_block b)
    in_statement (case_of at e all) =
        two (calls_in one_call e) (calls_in_arms one_call all) (calls_in leads e) (calls_in_arms leads all)
        (in_expression e) (in_arms all)
    in_statement (while_loop at e b) =
        two (calls_in one_call e) (calls_in_block one_call b) (calls_in leads e) (calls_in_block leads b)
        (in_expression e) (in_block b)
    in_statement (for_loop at n a z b) =
        three (calls_in one_call a) (calls_in one_call z) (calls_in_block one_call b) (calls_in leads a)
        (calls_in leads z) (calls_in_block leads b) (in_expression a) (in_expression z) (in_block b)
    in_statement (borrow_in at access x r region b stop) = in_block b
    in_statement (borrow_typed at r t mode x b stop) = in_block b
    in_statement (discard at e) = in_expression e
    in_statement (return_of at e) = in_expression e
    in_statement s = refl

    pub in_block : (b : Statements Bytes Note (Unit {0})) → calls_in_block leads b ≡ flat (calls_in_block one_call b)
    in_block no_statements = refl
    in_block (statements s rest) =
        two (calls_in_statement one_call s) (calls_in_block one_call rest) (calls_in_statement leads s)
        (calls_in_block leads rest) (in_statement s) (in_block rest)

    in_branches : (all : Branches Bytes Note (Unit {0})) → calls_in_branches leads all
        ≡ flat (calls_in_branches one_call all)
    in_branches no_branches = refl
    in_branches (branches e b rest) =
        three (calls_in one_call e) (calls_in_block one_call b) (calls_in_branches one_call rest) (calls_in leads e)
        (calls_in_block leads b) (calls_in_branches leads rest) (in_expression e) (in_block b) (in_branches rest)

    in_arms : (all : Arms Bytes Note (Unit {0})) → calls_in_arms leads all ≡ flat (calls_in_arms one_call all)
    in_arms no_arms = refl
    in_arms (arms at n binds b rest) =
        two (calls_in_block one_call b) (calls_in_arms one_call rest) (calls_in_block leads b)
        (calls_in_arms leads rest)
        (in_block b) (in_arms rest)

  -- what is found among what calls lead to, one of them leads to
  pub some_call : (same : A → A → Bool) (calls : List Call) (x : A) → Has same (flat calls) x
      → (one : Call) × Contains calls one × Has same (at_call one) x
  some_call same [] x h = absurd cc
  some_call same (one ∷ calls) x h = by (has_split same (at_call one) (flat calls) x h) (some_call same calls x)
    where
      by : Has same (at_call one) x ⊎ Has same (flat calls) x
          → (Has same (flat calls) x → (other : Call) × Contains calls other × Has same (at_call other) x)
          → (other : Call) × Contains (one ∷ calls) other × Has same (at_call other) x
      by (inl here) rest = (one, Contains-first one calls, here)
      by (inr later) rest =
          let found : (other : Call) × Contains calls other × Has same (at_call other) x = rest later in
          (found.0, Contains-rest one calls found.0 found.1, found.2)
