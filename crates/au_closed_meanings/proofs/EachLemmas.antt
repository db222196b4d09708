-- What is said of each mention and of each call of a tree, from what the calls lead to.
use Rattle.std.proofs.Common.{◌≡◌, Bool, true, List, [], ◌∷◌, ◌++◌}
use Rattle.std.specs.Prelude.{Contains}
use Rattle.std.proofs.lemmas.List.Elements.{Contains-append_left, Contains-append_right, Contains-push}
use Rattle.au_type_texts.specs.Types.{ClosedType}
use Rattle.au_closed_trees.specs.Calls.{calls_in, calls_in_all, calls_in_arguments, calls_in_statement}
use Rattle.au_closed_trees.specs.Calls.{calls_in_block, calls_in_branches, calls_in_arms}
use Rattle.au_meaning.specs.Expressions.{note_of}
use Rattle.au_closed_trees.specs.Notes.{said_in, said_in_all, said_in_arguments, said_in_statement}
use Rattle.au_closed_trees.specs.Notes.{said_in_block, said_in_branches, said_in_arms}
use Rattle.au_graphs.specs.Reached.{Has}
use Rattle.au_graphs.proofs.HasLemmas.{has_front, has_back}
use Rattle.au_closed_meanings.specs.Agreement.{EachIn, EachInAll, EachNamed, EachOf, EachOfBlock, EachOfTests}
use Rattle.au_closed_meanings.specs.Agreement.{EachOfArms}
use Rattle.au_syntax.specs.Expressions.{Expression, Expressions, Arguments, number, negative, text, truth}
use Rattle.au_syntax.specs.Expressions.{nil, path, arrow, call, named_call, parenthesized, dereference}
use Rattle.au_syntax.specs.Expressions.{borrow, borrow_part, binary, negation, typed, choice, no_expressions}
use Rattle.au_syntax.specs.Expressions.{expressions, no_arguments, arguments}
use Rattle.au_syntax.specs.Plain.{Bytes}
use Rattle.au_syntax.specs.Statements.{Statement, Statements, Branches, Arms, skip, declare, destructure}
use Rattle.au_syntax.specs.Statements.{assign, assign_through, conditional, conditional_else, case_of}
use Rattle.au_syntax.specs.Statements.{while_loop, for_loop, borrow_in, borrow_typed, discard, return_of}
use Rattle.au_syntax.specs.Statements.{no_statements, statements, no_branches, branches, no_arms, arms}

module _ {A : Type 0} (same : A → A → Bool) (all : List A) where
  -- what some elements are, all are
  abbrev pub Within : List A → Type 0
  Within some = (x : A) → Has same some x → Has same all x

  front : (us vs : List A) → Within (us ++ vs) → Within us
  front us vs there = λ x h. there x (has_front same us vs x h)

  back : (us vs : List A) → Within (us ++ vs) → Within vs
  back us vs there = λ x h. there x (has_back same us vs x h)

module _ (known : ClosedType → Bool) where
  -- some types count
  abbrev pub AllKnown : List ClosedType → Type 0
  AllKnown types = (of : ClosedType) → Contains types of → known of ≡ true

  known_front : (us vs : List ClosedType) → AllKnown (us ++ vs) → AllKnown us
  known_front us vs there = λ of h. there of (Contains-append_left us vs of h)

  known_back : (us vs : List ClosedType) → AllKnown (us ++ vs) → AllKnown vs
  known_back us vs there = λ of h. there of (Contains-append_right us vs of h)

  known_first : (of : ClosedType) (rest : List ClosedType) → AllKnown (of ∷ rest) → known of ≡ true
  known_first of rest there = there of (Contains-append_left (of ∷ []) rest of (Contains-push [] of))

  known_later : (of : ClosedType) (rest : List ClosedType) → AllKnown (of ∷ rest) → AllKnown rest
  known_later of rest there = λ one h. there one (Contains-append_right (of ∷ []) rest one h)

module _ {T C A : Type 0} (same : A → A → Bool) (all : List A) (leads : T → C → Bytes → List A)
    (known : ClosedType → Bool) (type_of : T → ClosedType)
    (noted : T → Type 0) (mention : T → Bytes → Type 0) (claim : T → C → Bytes → Type 0)
    (notes : (n : T) → known (type_of n) ≡ true → noted n)
    (mentions : (n : T) (name : Bytes) → mention n name)
    (calls : (n : T) (c : C) (name : Bytes) → known (type_of n) ≡ true → Within same all (leads n c name)
    → claim n c name) where
  abbrev types : T → List ClosedType
  types n = type_of n ∷ []

  -- the type of an expression counts
  here : (e : Expression Bytes T C) → AllKnown known (said_in types e) → noted (note_of e)
  here (number n l) k = notes n.note (known_first known _ [] k)
  here (negative n l) k = notes n.note (known_first known _ [] k)
  here (text n t) k = notes n.note (known_first known _ [] k)
  here (truth n b) k = notes n.note (known_first known _ [] k)
  here (nil n) k = notes n.note (known_first known _ [] k)
  here (path n x fields) k = notes n.note (known_first known _ [] k)
  here (arrow n x fields) k = notes n.note (known_first known _ [] k)
  here (call n f es c) k = notes n.note (known_first known _ _ k)
  here (named_call n f es c) k = notes n.note (known_first known _ _ k)
  here (parenthesized n e) k = notes n.note (known_first known _ _ k)
  here (dereference n e) k = notes n.note (known_first known _ _ k)
  here (borrow n m x) k = notes n.note (known_first known _ [] k)
  here (borrow_part n x fields) k = notes n.note (known_first known _ [] k)
  here (binary n op a b) k = notes n.note (known_first known _ _ k)
  here (negation n e) k = notes n.note (known_first known _ _ k)
  here (typed n e t) k = notes n.note (known_first known _ _ k)
  here (choice n c a b) k = notes n.note (known_first known _ _ k)

  mutual
    each : (e : Expression Bytes T C) → Within same all (calls_in leads e) → AllKnown known (said_in types e)
        → EachIn mention claim e
    each (number n l) w k = tt
    each (negative n l) w k = tt
    each (text n t) w k = tt
    each (truth n b) w k = tt
    each (nil n) w k = tt
    each (path n x fields) w k = mentions n.note x.name
    each (arrow n x fields) w k = tt
    each (call n f es c) w k = (
      calls n.note c f.name (known_first known _ _ k)
          (front same all (leads n.note c f.name) (calls_in_all leads es) w),
      each_all es (back same all (leads n.note c f.name) (calls_in_all leads es) w)
          (known_later known _ _ k),
    )
    each (named_call n f es c) w k = (
      calls n.note c f.name (known_first known _ _ k)
          (front same all (leads n.note c f.name) (calls_in_arguments leads es) w),
      each_named es (back same all (leads n.note c f.name) (calls_in_arguments leads es) w)
          (known_later known _ _ k),
    )
    each (parenthesized n e) w k = each e w (known_later known _ _ k)
    each (dereference n e) w k = each e w (known_later known _ _ k)
    each (borrow n m x) w k = tt
    each (borrow_part n x fields) w k = tt
    each (binary n op a b) w k =
        let rest = known_later known _ (said_in types a ++ said_in types b) k in (
          each a (front same all (calls_in leads a) (calls_in leads b) w)
              (known_front known (said_in types a) (said_in types b) rest),
          each b (back same all (calls_in leads a) (calls_in leads b) w)
              (known_back known (said_in types a) (said_in types b) rest),
        )
    each (negation n e) w k = each e w (known_later known _ _ k)
    each (typed n e t) w k = each e w (known_later known _ _ k)
    each (choice n c a b) w k =
        let some = calls_in leads c ++ calls_in leads a in
        let others = front same all some (calls_in leads b) w in
        let these = said_in types c ++ said_in types a in
        let rest = known_later known _ (these ++ said_in types b) k in
        let two = known_front known these (said_in types b) rest in (
          each c (front same all (calls_in leads c) (calls_in leads a) others)
              (known_front known (said_in types c) (said_in types a) two),
          each a (back same all (calls_in leads c) (calls_in leads a) others)
              (known_back known (said_in types c) (said_in types a) two),
          each b (back same all some (calls_in leads b) w) (known_back known these (said_in types b) rest),
        )

    each_all : (es : Expressions Bytes T C) → Within same all (calls_in_all leads es)
        → AllKnown known (said_in_all types es) → EachInAll mention claim es
    each_all no_expressions w k = tt
    each_all (expressions e rest) w k = (
      each e (front same all (calls_in leads e) (calls_in_all leads rest) w)
          (known_front known (said_in types e) (said_in_all types rest) k),
      each_all rest (back same all (calls_in leads e) (calls_in_all leads rest) w)
          (known_back known (said_in types e) (said_in_all types rest) k),
    )

    each_named : (es : Arguments Bytes T C) → Within same all (calls_in_arguments leads es)
        → AllKnown known (said_in_arguments types es) → EachNamed mention claim es
    each_named no_arguments w k = tt
    each_named (arguments label e rest) w k = (
      each e (front same all (calls_in leads e) (calls_in_arguments leads rest) w)
          (known_front known (said_in types e) (said_in_arguments types rest) k),
      each_named rest (back same all (calls_in leads e) (calls_in_arguments leads rest) w)
          (known_back known (said_in types e) (said_in_arguments types rest) k),
    )

  mutual
    each_of : (s : Statement Bytes T C) → Within same all (calls_in_statement leads s)
        → AllKnown known (said_in_statement types s) → EachOf noted mention claim s
    each_of (skip at) w k = tt
    each_of (declare at b n t e) w k = (here e k, each e w k)
    each_of (destructure at binds e) w k = (here e k, each e w k)
    each_of (assign at n fields e) w k = each e w k
    each_of (assign_through at n fields e) w k = each e w k
    each_of (conditional at tests) w k = each_tests tests w k
    each_of (conditional_else at tests b) w k = (
      each_tests tests (front same all (calls_in_branches leads tests) (calls_in_block leads b) w)
          (known_front known (said_in_branches types tests) (said_in_block types b) k),
      each_block b (back same all (calls_in_branches leads tests) (calls_in_block leads b) w)
          (known_back known (said_in_branches types tests) (said_in_block types b) k),
    )
    each_of (case_of at e cases) w k =
        let first = known_front known (said_in types e) (said_in_arms types cases) k in (
          here e first,
          each e (front same all (calls_in leads e) (calls_in_arms leads cases) w) first,
          each_arms cases (back same all (calls_in leads e) (calls_in_arms leads cases) w)
              (known_back known (said_in types e) (said_in_arms types cases) k),
        )
    each_of (while_loop at e b) w k = (
      each e (front same all (calls_in leads e) (calls_in_block leads b) w)
          (known_front known (said_in types e) (said_in_block types b) k),
      each_block b (back same all (calls_in leads e) (calls_in_block leads b) w)
          (known_back known (said_in types e) (said_in_block types b) k),
    )
    each_of (for_loop at n a z b) w k =
        let some = calls_in leads a ++ calls_in leads z in
        let others = front same all some (calls_in_block leads b) w in
        let these = said_in types a ++ said_in types z in
        let two = known_front known these (said_in_block types b) k in
        let first = known_front known (said_in types a) (said_in types z) two in (
          here a first,
          each a (front same all (calls_in leads a) (calls_in leads z) others) first,
          each z (back same all (calls_in leads a) (calls_in leads z) others)
              (known_back known (said_in types a) (said_in types z) two),
          each_block b (back same all some (calls_in_block leads b) w)
              (known_back known these (said_in_block types b) k),
        )
    each_of (borrow_in at access x r region b stop) w k = each_block b w k
    each_of (borrow_typed at r t mode x b stop) w k = each_block b w k
    each_of (discard at e) w k = each e w k
    each_of (return_of at e) w k = each e w k

    pub each_block : (b : Statements Bytes T C) → Within same all (calls_in_block leads b)
        → AllKnown known (said_in_block types b) → EachOfBlock noted mention claim b
    each_block no_statements w k = tt
    each_block (statements s rest) w k = (
      each_of s (front same all (calls_in_statement leads s) (calls_in_block leads rest) w)
          (known_front known (said_in_statement types s) (said_in_block types rest) k),
      each_block rest (back same all (calls_in_statement leads s) (calls_in_block leads rest) w)
          (known_back known (said_in_statement types s) (said_in_block types rest) k),
    )

    each_tests : (tests : Branches Bytes T C) → Within same all (calls_in_branches leads tests)
        → AllKnown known (said_in_branches types tests)
        → EachOfTests noted mention claim tests
    each_tests no_branches w k = tt
    each_tests (branches e b rest) w k =
        let some = calls_in leads e ++ calls_in_block leads b in
        let others = front same all some (calls_in_branches leads rest) w in
        let these = said_in types e ++ said_in_block types b in
        let two = known_front known these (said_in_branches types rest) k in (
          each e (front same all (calls_in leads e) (calls_in_block leads b) others)
              (known_front known (said_in types e) (said_in_block types b) two),
          each_block b (back same all (calls_in leads e) (calls_in_block leads b) others)
              (known_back known (said_in types e) (said_in_block types b) two),
          each_tests rest (back same all some (calls_in_branches leads rest) w)
              (known_back known these (said_in_branches types rest) k),
        )

    each_arms : (cases : Arms Bytes T C) → Within same all (calls_in_arms leads cases)
        → AllKnown known (said_in_arms types cases)
        → EachOfArms noted mention claim cases
    each_arms no_arms w k = tt
    each_arms (arms at n binds b rest) w k = (
      each_block b (front same all (calls_in_block leads b) (calls_in_arms leads rest) w)
          (known_front known (said_in_block types b) (said_in_arms types rest) k),
      each_arms rest (back same all (calls_in_block leads b) (calls_in_arms leads rest) w)
          (known_back known (said_in_block types b) (said_in_arms types rest) k),
    )
