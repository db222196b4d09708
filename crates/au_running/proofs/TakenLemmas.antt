-- What is taken apart in a body that is typed has fields of the same names, whatever closed types are given.
use Rattle.std.proofs.Common.{◌≡◌, Bool, List, [], ◌∷◌, Some, Ok, Err, refl, sym, ap, ◌∙◌}
use Rattle.au_syntax.specs.Expressions.{number, negative, text, truth, nil, path, arrow, call, named_call}
use Rattle.au_syntax.specs.Expressions.{parenthesized, dereference, borrow, borrow_part, binary, negation, typed, choice}
use Rattle.au_syntax.specs.Plain.{Bytes}
use Rattle.au_syntax.specs.Statements.{skip, declare, destructure, assign, assign_through, conditional}
use Rattle.au_syntax.specs.Statements.{conditional_else, case_of, while_loop, for_loop, borrow_in}
use Rattle.au_syntax.specs.Statements.{borrow_typed, discard, return_of, no_statements, statements}
use Rattle.au_syntax.specs.Statements.{no_branches, branches, no_arms, arms}
use Rattle.au_syntax.specs.Types.{Bound}
use Rattle.au_closed_meanings.specs.Agreement.{EachOf, EachOfBlock, EachOfTests, EachOfArms}
use Rattle.au_lowered.specs.HomeLists.{NamesAgree, NamesAgreeInBlock, NamesAgreeInTests, NamesAgreeInArms, SameNames}
use Rattle.au_meaning.specs.Expressions.{note_of}
use Rattle.au_meaning.specs.Views.{Field}
use Rattle.au_typing.specs.Scopes.{Case, Outside, Scope, Typed}
use Rattle.au_typing.specs.Faults.{Noting}
use Rattle.au_typing.specs.InScope.{after, fixed_variable, with_bound, with_reference, with_typed, with_variable}
use Rattle.au_typing.specs.Lookups.{written_type}
use Rattle.au_typing.specs.Notes.{Note, NotedExpression, type_of}
use Rattle.au_typing.specs.Parts.{borrow_type, cases_told, mode_for}
use Rattle.au_typing.specs.Statements.{GoodStatement, GoodBlock, GoodBranches, GoodArmBlocks}
use Rattle.au_typing.specs.Trees.{NotedStatement, NotedStatements, NotedBranches, NotedArms}
use Rattle.au_types.specs.Types.{Meaning}
use Rattle.au_names.specs.Importing.{given_name}

-- ---- what is outside

typed_outside : (name : Bytes) (assignable : Bool) (of : Noting Meaning) (sc : Scope)
    → (with_typed name assignable of sc).outside ≡ sc.outside
typed_outside name assignable (Ok t) sc = refl
typed_outside name assignable (Err fault) sc = refl

bound_outside : (binds : List (Bound Bytes)) (sc : Scope) → (with_bound binds sc).outside ≡ sc.outside
bound_outside [] sc = refl
bound_outside (b ∷ rest) sc =
    bound_outside rest _ ∙ typed_outside (given_name b.name) _ (written_type sc b.of) sc

after_outside : (s : NotedStatement) (sc : Scope) → (after s sc).outside ≡ sc.outside
after_outside (skip at) sc = refl
after_outside (declare at b n t e) sc = typed_outside n.name _ (written_type sc t) sc
after_outside (destructure at binds e) sc = bound_outside binds sc
after_outside (assign at n fields e) sc = refl
after_outside (assign_through at n fields e) sc = refl
after_outside (conditional at tests) sc = refl
after_outside (conditional_else at tests b) sc = refl
after_outside (case_of at e all) sc = refl
after_outside (while_loop at e b) sc = refl
after_outside (for_loop at n a z b) sc = refl
after_outside (borrow_in at access x r region b stop) sc = refl
after_outside (borrow_typed at r t mode x b stop) sc = refl
after_outside (discard at e) sc = refl
after_outside (return_of at e) sc = refl

-- ---- the note of an expression

noted_type : (e : NotedExpression) → type_of e ≡ (note_of e).of
noted_type (number n l) = refl
noted_type (negative n l) = refl
noted_type (text n t) = refl
noted_type (truth n b) = refl
noted_type (nil n) = refl
noted_type (path n x fields) = refl
noted_type (arrow n x fields) = refl
noted_type (call n f es c) = refl
noted_type (named_call n f es c) = refl
noted_type (parenthesized n e) = refl
noted_type (dereference n e) = refl
noted_type (borrow n m x) = refl
noted_type (borrow_part n x fields) = refl
noted_type (binary n op a b) = refl
noted_type (negation n e) = refl
noted_type (typed n e t) = refl
noted_type (choice n c a b) = refl

-- ---- names that agree

-- nothing is said of mentions and calls
abbrev pub AnyMention : Note → Bytes → Type 0
AnyMention n name = Unit {0}

abbrev pub AnyCall : Note → Unit {0} → Bytes → Type 0
AnyCall n c name = Unit {0}

-- where two views give fields of the same names to each record and to each case of a union that is known here,
-- by its note, if its type counts for both
module _ (outside : Outside) (counts too : Note → Type 0) (fields others : Note → List Field)
    (cases other_cases : Note → Bytes → List Field)
    (takes : (n : Note) (all : List Typed) → outside.fields n.of ≡ Some all → counts n → too n
    → SameNames (fields n) (others n))
    (tells : (n : Note) (sc : Scope) → sc.outside ≡ outside → (all : List Case) → cases_told sc n.of ≡ Some all
    → counts n → too n → (arm : Bytes) → SameNames (cases n arm) (other_cases n arm)) where
  mutual
    agrees : (s : NotedStatement) (sc : Scope) → sc.outside ≡ outside → GoodStatement s sc
        → EachOf counts AnyMention AnyCall s → EachOf too AnyMention AnyCall s
        → NamesAgree fields others cases other_cases s
    agrees (skip at) sc o g c d = tt
    agrees (declare at b n t e) sc o g c d = tt
    agrees (destructure at binds e) sc o g c d =
        takes (note_of e) g.fields
        (ap (λ (out : Outside). out.fields ((note_of e).of)) (sym o)
        ∙ ap (λ t. sc.outside.fields t) (sym (noted_type e)) ∙ g.known) c.0 d.0
    agrees (assign at n names e) sc o g c d = tt
    agrees (assign_through at n names e) sc o g c d = tt
    agrees (conditional at tests) sc o g c d = tests_agree tests sc o g c d
    agrees (conditional_else at tests b) sc o g c d =
        (tests_agree tests sc o g.0 c.0 d.0, block_agrees b sc o g.1 c.1 d.1)
    agrees (case_of at e all) sc o g c d =
        arms_agree (note_of e) all sc o
        (tells (note_of e) sc o g.0.cases (ap (cases_told sc) (sym (noted_type e)) ∙ g.0.known) c.0 d.0)
        g.1 c.2 d.2
    agrees (while_loop at e b) sc o g c d = block_agrees b sc o g.1 c.1 d.1
    agrees (for_loop at n a z b) sc o g c d =
        block_agrees b (with_variable (fixed_variable n.name (type_of a)) sc) o g.1 c.3 d.3
    agrees (borrow_in at kind x r region b stop) sc o g c d =
        block_agrees b (with_reference r.name region.name (borrow_type (mode_for kind) region.name g.0) sc) o g.2 c d
    agrees (borrow_typed at r t mode x b stop) sc o g c d =
        block_agrees b (with_reference r.name g.0 g.1 sc) o g.3 c d
    agrees (discard at e) sc o g c d = tt
    agrees (return_of at e) sc o g c d = tt

    pub block_agrees : (b : NotedStatements) (sc : Scope) → sc.outside ≡ outside → GoodBlock b sc
        → EachOfBlock counts AnyMention AnyCall b → EachOfBlock too AnyMention AnyCall b
        → NamesAgreeInBlock fields others cases other_cases b
    block_agrees no_statements sc o g c d = tt
    block_agrees (statements s rest) sc o g c d = (
      agrees s sc o g.0 c.0 d.0,
      block_agrees rest (after s sc) (after_outside s sc ∙ o) g.2 c.1 d.1,
    )

    tests_agree : (tests : NotedBranches) (sc : Scope) → sc.outside ≡ outside → GoodBranches tests sc
        → EachOfTests counts AnyMention AnyCall tests → EachOfTests too AnyMention AnyCall tests
        → NamesAgreeInTests fields others cases other_cases tests
    tests_agree no_branches sc o g c d = tt
    tests_agree (branches e b rest) sc o g c d =
        (block_agrees b sc o g.1 c.1 d.1, tests_agree rest sc o g.2 c.2 d.2)

    arms_agree : (note : Note) (all : NotedArms) (sc : Scope) → sc.outside ≡ outside
        → ((arm : Bytes) → SameNames (cases note arm) (other_cases note arm)) → GoodArmBlocks all sc
        → EachOfArms counts AnyMention AnyCall all → EachOfArms too AnyMention AnyCall all
        → NamesAgreeInArms fields others cases other_cases note all
    arms_agree note no_arms sc o same g c d = tt
    arms_agree note (arms at n binds b rest) sc o same g c d = (
      same n.name,
      block_agrees b (with_bound binds sc) (bound_outside binds sc ∙ o) g.0 c.0 d.0,
      arms_agree note rest sc o same g.1 c.1 d.1,
    )
