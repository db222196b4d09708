-- Constants of a derived program are literals in the range of their kinds.
use Rattle.std.proofs.Common.{◌≡◌, ℕ, ◌+◌, true, List, [], Option, Some, None, refl, sym, ap, subst, ◌∙◌}
use Rattle.std.proofs.Common.{slice_get, ℤ, neg_ℤ}
use Rattle.std.specs.Option.{option_map, option_and_then}
use Rattle.std.proofs.lemmas.Option.{slice_get-map}
use Rattle.au_ints.specs.Ranges.{is_of_kind}
use Rattle.au_syntax.specs.Expressions.{Expression, Expressions, Arguments, number, negative, text, truth}
use Rattle.au_syntax.specs.Expressions.{nil, path, arrow, call, named_call, parenthesized, dereference}
use Rattle.au_syntax.specs.Expressions.{borrow, borrow_part, binary, negation, typed, choice, no_expressions}
use Rattle.au_syntax.specs.Expressions.{expressions, no_arguments, arguments}
use Rattle.au_syntax.specs.declared.modules.Part.TheVariants.{Body}
use Rattle.au_syntax.specs.Modules.{constant, opaque_type, record_type, union_type, function, class, instance}
use Rattle.au_syntax.specs.Modules.{constant_body, function_body, instance_body}
use Rattle.au_syntax.specs.Plain.{Bytes}
use Rattle.au_syntax.specs.Statements.{Statement, Statements, Branches, Arms, skip, declare, destructure}
use Rattle.au_syntax.specs.Statements.{assign, assign_through, conditional, conditional_else, case_of}
use Rattle.au_syntax.specs.Statements.{while_loop, for_loop, borrow_in, borrow_typed, discard, return_of}
use Rattle.au_syntax.specs.Statements.{no_statements, statements, no_branches, branches, no_arms, arms}
use Rattle.au_types.specs.declared.types.DeclAt.{DeclAt}
use Rattle.au_types.specs.Types as mean
use Rattle.au_types.specs.Types.{Meaning}
use Rattle.au_modules.specs.Programs.{ModuleParts}
use Rattle.au_names.specs.HeadsOf.{heads_of}
use Rattle.au_names.specs.Standing.{Standing, standing_at}
use Rattle.au_judged_types.specs.Meanings.{written_params}
use Rattle.au_typing.specs.Scopes.{Outside, Scope}
use Rattle.au_typing.specs.Good.{AllGood}
use Rattle.au_typing.specs.Notes.{Note, NotedExpression}
use Rattle.au_typing.specs.Rules.{literal_kind}
use Rattle.au_typing.specs.Bodies.{outer_scope}
use Rattle.au_typing.specs.Derivations.{GoodDeclaration}
use Rattle.au_typing.specs.Trees.{NotedDeclaration, NotedParts}
use Rattle.au_lowering.specs.Faults.{IsDerived}
use Rattle.au_typing.specs.Outsides.{outside_of}
use Rattle.au_closed_trees.specs.Changes.{Change}
use Rattle.au_closed_trees.specs.declared.notes.Literal.{Literal}
use Rattle.au_closed_trees.specs.declared.notes.Literal.TheVariants as literals
use Rattle.au_closed_trees.specs.Renoted.{expression_renoted, expressions_renoted, arguments_renoted}
use Rattle.au_closed_trees.specs.Renoted.{statement_renoted, block_renoted, branches_renoted, arms_renoted}
use Rattle.au_closing.specs.Bodies.{BodyOf, body_at, body_of, constant_seen, defining_index, integer_of}
use Rattle.au_closing.specs.Bodies.{literal_of, noted_at, value_in, value_of, value_standing}
use Rattle.au_closing.specs.Closes.{ClosedFunction, ClosesFunctions, body_closed, change_of, instance_closed}
use Rattle.au_closing.specs.Closes.{mention_closed}
use Rattle.au_closing.specs.Instances.{Instance}
use Rattle.au_closed_meanings.specs.Surroundings.{literal_value}
use Rattle.au_running.specs.Asked.{AreSimple, InRange, IsAny}
use Rattle.au_running.specs.Suits.{SaidOf, SaidOfAll, SaidOfNamed, SaidIn, SaidOfBlock, SaidOfTests}
use Rattle.au_running.specs.Suits.{SaidOfArms, has_literal}
use Rattle.au_running.proofs.DerivedLemmas.{good_there, module_good}

-- ---- what is said of a tree with other notes

module _ {T C U D : Type 0} (change : Change Bytes T C U D) (mentioned : U → Bytes → Type 0)
    (mention : (n : T) (name : Bytes) → mentioned (change.mention n name) name) where
  -- nothing is said of a call
  abbrev called : U → D → Bytes → Type 0
  called note c name = Unit {0}

  mutual
    noted : (e : Expression Bytes T C) → SaidOf mentioned called (expression_renoted change e)
    noted (number n l) = tt
    noted (negative n l) = tt
    noted (text n t) = tt
    noted (truth n b) = tt
    noted (nil n) = tt
    noted (path n x fields) = mention n.note x.name
    noted (arrow n r fields) = tt
    noted (call n f args c) = (tt, noted_all args)
    noted (named_call n f args c) = (tt, noted_named args)
    noted (parenthesized n e) = noted e
    noted (dereference n e) = noted e
    noted (borrow n mode x) = tt
    noted (borrow_part n r fields) = tt
    noted (binary n op a b) = (noted a, noted b)
    noted (negation n e) = noted e
    noted (typed n e t) = noted e
    noted (choice n c a b) = (noted c, noted a, noted b)

    noted_all : (es : Expressions Bytes T C) → SaidOfAll mentioned called (expressions_renoted change es)
    noted_all no_expressions = tt
    noted_all (expressions e rest) = (noted e, noted_all rest)

    noted_named : (es : Arguments Bytes T C) → SaidOfNamed mentioned called (arguments_renoted change es)
    noted_named no_arguments = tt
    noted_named (arguments label e rest) = (noted e, noted_named rest)

  mutual
    noted_in : (s : Statement Bytes T C) → SaidIn mentioned called (statement_renoted change s)
    noted_in (skip at) = tt
    noted_in (declare at b n t e) = noted e
    noted_in (destructure at binds e) = noted e
    noted_in (assign at n fields e) = noted e
    noted_in (assign_through at n fields e) = noted e
    noted_in (conditional at tests) = noted_tests tests
    noted_in (conditional_else at tests b) = (noted_tests tests, noted_block b)
    noted_in (case_of at e all) = (noted e, noted_arms all)
    noted_in (while_loop at e b) = (noted e, noted_block b)
    noted_in (for_loop at n a z b) = (noted a, noted z, noted_block b)
    noted_in (borrow_in at access x r region b stop) = noted_block b
    noted_in (borrow_typed at r t mode x b stop) = noted_block b
    noted_in (discard at e) = noted e
    noted_in (return_of at e) = noted e

    noted_block : (b : Statements Bytes T C) → SaidOfBlock mentioned called (block_renoted change b)
    noted_block no_statements = tt
    noted_block (statements s rest) = (noted_in s, noted_block rest)

    noted_tests : (tests : Branches Bytes T C) → SaidOfTests mentioned called (branches_renoted change tests)
    noted_tests no_branches = tt
    noted_tests (branches e b rest) = (noted e, noted_block b, noted_tests rest)

    noted_arms : (all : Arms Bytes T C) → SaidOfArms mentioned called (arms_renoted change all)
    noted_arms no_arms = tt
    noted_arms (arms at n binds b rest) = (noted_block b, noted_arms rest)

-- ---- literals

-- a literal that is a value of a declared constant lies in its range
abbrev Ranges : Option Literal → Type 0
Ranges o = (literal : Literal) → o ≡ Some literal → has_literal (literal_value literal) ≡ true

integer_ranges : (of : Meaning) (kind : _) (z : ℤ) → of ≡ mean.integer kind → is_of_kind kind z ≡ true
    → Ranges (integer_of of z)
integer_ranges of kind z is ok literal e =
    let same : literals.Int kind z ≡ literal = some_same (sym (ap (λ t. integer_of t z) is) ∙ e) in
    subst (λ l. has_literal (literal_value l) ≡ true) same ok
  where
    some_same : {a b : Literal} → Some a ≡ Some b → a ≡ b
    some_same e = cc

literal_ranges : (sc : Scope) (e : NotedExpression) → AllGood sc e → Ranges (literal_of e)
literal_ranges sc (number n l) g literal e =
    integer_ranges n.note.of (literal_kind n.note.mode) l.value g.1.0 g.1.1 literal e
literal_ranges sc (negative n l) g literal e =
    integer_ranges n.note.of (literal_kind n.note.mode) (neg_ℤ l.value) g.1.0 g.1.1 literal e
literal_ranges sc (text n t) g literal e =
    let same : literals.Text t ≡ literal = cc in subst (λ l. has_literal (literal_value l) ≡ true) same refl
literal_ranges sc (truth n b) g literal e =
    let same : literals.Bool b ≡ literal = cc in subst (λ l. has_literal (literal_value l) ≡ true) same refl
literal_ranges sc (nil n) g literal e =
    let same : literals.Unit ≡ literal = cc in subst (λ l. has_literal (literal_value l) ≡ true) same refl
literal_ranges sc (path n x fields) g literal e = absurd cc
literal_ranges sc (arrow n x fields) g literal e = absurd cc
literal_ranges sc (call n f es c) g literal e = absurd cc
literal_ranges sc (named_call n f es c) g literal e = absurd cc
literal_ranges sc (parenthesized n a) g literal e = absurd cc
literal_ranges sc (dereference n a) g literal e = absurd cc
literal_ranges sc (borrow n m x) g literal e = absurd cc
literal_ranges sc (borrow_part n x fields) g literal e = absurd cc
literal_ranges sc (binary n op a b) g literal e = absurd cc
literal_ranges sc (negation n a) g literal e = absurd cc
literal_ranges sc (typed n a t) g literal e = absurd cc
literal_ranges sc (choice n c a b) g literal e = absurd cc

declared_ranges : (outside : Outside) (d : NotedDeclaration) → GoodDeclaration outside d → Ranges (value_in d)
declared_ranges outside (constant_body at n t value) g literal e =
    literal_ranges (outer_scope outside []) value g.wants.0 literal e
declared_ranges outside (function_body at generics h block stop) g literal e = absurd cc
declared_ranges outside (instance_body at generics named t methods) g literal e = absurd cc
declared_ranges outside (constant at n t) g literal e = absurd cc
declared_ranges outside (opaque_type at n ps u) g literal e = absurd cc
declared_ranges outside (record_type at n ps u fields) g literal e = absurd cc
declared_ranges outside (union_type at n ps u cases) g literal e = absurd cc
declared_ranges outside (function at gs h) g literal e = absurd cc
declared_ranges outside (class at n p hs) g literal e = absurd cc
declared_ranges outside (instance at gs n t) g literal e = absurd cc

module _ (program : List ModuleParts) (noted : List NotedParts) (derived : IsDerived program noted) where
  indexed_ranges : (at : ℕ) (index : Option ℕ) → Ranges (option_and_then value_in (noted_at noted at index))
  indexed_ranges at None literal e = absurd cc
  indexed_ranges at (Some index) literal e = by_place (slice_get (body_at noted at) index) refl e
    where
      by_place : (o : Option NotedDeclaration) → slice_get (body_at noted at) index ≡ o
          → option_and_then value_in o ≡ Some literal → has_literal (literal_value literal) ≡ true
      by_place None there is = absurd cc
      by_place (Some d) there is =
          let good = module_good (outside_of program) 0 noted derived.good at in
          declared_ranges (outside_of program (0 + at) Body) d
          (good_there (outside_of program (0 + at) Body) (body_at noted at) good index d there) literal is

  standing_ranges : (o : Option Standing) → Ranges (value_standing program noted o)
  standing_ranges None literal e = absurd cc
  standing_ranges (Some d) literal e = indexed_ranges d.place (defining_index program d d.part) literal e

  -- the note of a mention is in range
  mention_ranges : (place : ℕ) (params : _) (given : _) (n : Note) (name : Bytes)
      → InRange (mention_closed (heads_of program) (value_of program noted) params given n
      (constant_seen program place name)) name
  mention_ranges place params given n name = by_name (constant_seen program place name)
    where
      by_name : (o : Option DeclAt)
          → InRange (mention_closed (heads_of program) (value_of program noted) params given n o) name
      by_name None literal e = absurd cc
      by_name (Some at) literal e = standing_ranges (standing_at program at) literal e

  module _ (all : List Instance) where
    made_simple : (one : Instance) (o : Option BodyOf) (f : ClosedFunction)
        → Some (Some f) ≡ Some (option_map (body_closed program noted all one.given) o)
        → SaidOfBlock InRange IsAny f.body
    made_simple one None f e = absurd cc
    made_simple one (Some body) f e =
        let same : body_closed program noted all one.given body ≡ f = cc in
        let params = written_params body.generics in
        subst (λ (x : ClosedFunction). SaidOfBlock InRange IsAny x.body) same
        (noted_block (change_of program noted all body.place params one.given) InRange
        (mention_ranges body.place params one.given) body.block)

    instance_simple : (o : Option Instance) (f : ClosedFunction)
        → Some (Some f) ≡ option_map (instance_closed program noted all) o
        → SaidOfBlock InRange IsAny f.body
    instance_simple None f e = absurd cc
    instance_simple (Some one) f e = made_simple one (body_of program noted one.of) f e

-- closed functions of a derived program are simple
pub are_simple : (program : List ModuleParts) (noted : List NotedParts) → IsDerived program noted
    → (entry : Instance) (functions : List ClosedFunction) → ClosesFunctions program noted entry functions
    → AreSimple functions
are_simple program noted derived entry functions closes i f e =
    instance_simple program noted derived closes.instances (slice_get closes.instances i) f
    (sym (ap (option_map Some) e) ∙ sym (slice_get-map Some functions i)
    ∙ ap (λ l. slice_get l i) closes.closed
    ∙ slice_get-map (instance_closed program noted closes.instances) closes.instances i)
