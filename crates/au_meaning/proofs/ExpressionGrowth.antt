-- Expressions: each clause is that of the meaning, with the lemma of each action in its place.
use Rattle.std.proofs.Common.{ℕ, Bool, true, false, List, [], ◌∷◌, Option, Some, None, ℤ, neg_ℤ}
use Rattle.au_base.specs.declared.kinds.IntKind.{IntKind}
use Rattle.au_effects.specs.Numbers.{computed, compared, negated}
use Rattle.au_effects.specs.References.{reference_in}
use Rattle.au_ints.specs.Ranges.{is_of_kind}
use Rattle.au_syntax.specs.Expressions.{Expression, Expressions, Arguments, number, negative, text, truth}
use Rattle.au_syntax.specs.Expressions.{nil, path, arrow, call, named_call, parenthesized, dereference}
use Rattle.au_syntax.specs.Expressions.{borrow, borrow_part, binary, negation, typed, choice, no_expressions}
use Rattle.au_syntax.specs.Expressions.{expressions, no_arguments, arguments}
use Rattle.au_syntax.specs.Plain.{Bytes}
use Rattle.au_meaning.specs.Acts.{by_position, by_labels}
use Rattle.au_meaning.specs.Expressions.{Operation, computes, compares, is_and, is_or, operation_of, kind_in}
use Rattle.au_meaning.specs.Expressions.{compared_kind, note_of, names_of, labels, labelled, literal, copies}
use Rattle.au_meaning.specs.Expressions.{alone, operand, mentions, looks_into, reaches, operates, acts, calls}
use Rattle.au_meaning.specs.Expressions.{joins, eval, eval_all, eval_named, whole}
use Rattle.au_meaning.specs.Names.{Scope, Variable, variable_of, path_numbers, target_behind}
use Rattle.au_meaning.specs.Ticks.{Action}
use Rattle.au_meaning.specs.Views.{View, Callee, Act, invokes, makes, ships}
use Rattle.au_meaning.specs.Worlds.{Value}
use Rattle.au_meaning.proofs.ActGrowth.{looks_grows, moves_grows, refers_grows, reads_grows, lends_grows}
use Rattle.au_meaning.proofs.ActGrowth.{closing_grows, makes_grows}
use Rattle.au_meaning.proofs.CallGrowth.{ships_grows}
use Rattle.au_meaning.proofs.Growing.{Grows, grows_bind, grows_pure, grows_stuck, grows_tick, grows_needing}
use Rattle.au_meaning.proofs.Growing.{grows_where, grows_chosen, grows_comes}

literal_grows : (kind : Option IntKind) (z : ℤ) → Grows (literal kind z) (literal kind z)
literal_grows kind z = grows_needing kind (λ one. grows_where (is_of_kind one z) grows_pure)

copies_grows : (free : Bool) (name : ℕ) → Grows (copies free name) (copies free name)
copies_grows true name = looks_grows name []
copies_grows false name = moves_grows name

operand_grows : {m m2 : Action Value} (x : Option Variable) → Grows m m2 → Grows (operand x m) (operand x m2)
operand_grows None g = g
operand_grows (Some x) g = grows_tick (looks_grows x.number [])

module _ {I T C : Type 0} (see : View I T C) where
  mentions_grows : (note : T) (x : Option Variable) (name : Bytes)
      → Grows (mentions see note x name) (mentions see note x name)
  mentions_grows note (Some x) name = copies_grows (see.is_free note) x.number
  mentions_grows note None name = grows_needing (see.constant note name) (λ value. grows_pure)

  looks_into_grows : (x : Option Variable) (names : List Bytes)
      → Grows (looks_into see x names) (looks_into see x names)
  looks_into_grows None names = grows_stuck
  looks_into_grows (Some x) names =
      grows_needing (path_numbers (λ of. see.fields of 0) x.of names) (λ path. looks_grows x.number path)

  pub reaches_grows : (r : Option Variable) (names : List Bytes)
      → Grows (reaches see r names) (reaches see r names)
  reaches_grows None names = grows_stuck
  reaches_grows (Some r) names =
      grows_needing (path_numbers (λ of. see.fields of 0) (target_behind r.of) names) (refers_grows r.number)

  operates_grows : (op : Operation) (whole first : T) (a b : Value)
      → Grows (operates see op whole first a b) (operates see op whole first a b)
  operates_grows (computes op) whole first a b =
      grows_needing (kind_in (see.type_of whole)) (λ kind. grows_comes (computed op kind a b))
  operates_grows (compares op) whole first a b =
      grows_needing (compared_kind (see.type_of first)) (λ kind. grows_comes (compared op kind a b))
  operates_grows is_and whole first a b = grows_stuck
  operates_grows is_or whole first a b = grows_stuck

module _ {I T C : Type 0} (see : View I T C) (invoke invoke2 : I → List Value → Action Value)
    (deeper : (one : I) (args : List Value) → Grows (invoke one args) (invoke2 one args)) where
  acts_grows : (act : Act I) (args : List Value)
      → Grows (acts see invoke act args) (acts see invoke2 act args)
  acts_grows (invokes one) args = deeper one args
  acts_grows (makes of tag home) args = makes_grows (see.is_linear of) of tag home args
  acts_grows (ships prim born) args = ships_grows prim born args

  calls_grows : (one : Option (Callee I)) (order : List Bytes → Option (List Value))
      → Grows (calls see invoke one order) (calls see invoke2 one order)
  calls_grows None order = grows_stuck
  calls_grows (Some one) order = grows_needing (order one.parameters) (acts_grows one.act)

  joins_grows : (op : Operation) (whole first : T) {a a2 b b2 : Action Value} → Grows a a2 → Grows b b2
      → Grows (joins see invoke op whole first a b) (joins see invoke2 op whole first a2 b2)
  joins_grows is_and whole first g h = grows_bind g (λ x. grows_tick (grows_chosen x h grows_pure))
  joins_grows is_or whole first g h = grows_bind g (λ x. grows_tick (grows_chosen x grows_pure h))
  joins_grows (computes op) whole first g h =
      grows_bind g (λ x. grows_bind h (λ y. grows_tick (operates_grows see (computes op) whole first x y)))
  joins_grows (compares op) whole first g h =
      grows_bind g (λ x. grows_bind h (λ y. grows_tick (operates_grows see (compares op) whole first x y)))

  mutual
    pub eval_grows : (scope : Scope) (e : Expression Bytes T C)
        → Grows (eval see invoke scope e) (eval see invoke2 scope e)
    eval_grows scope (number n l) = grows_tick (literal_grows (kind_in (see.type_of n.note)) l.value)
    eval_grows scope (negative n l) =
        grows_tick (literal_grows (kind_in (see.type_of n.note)) (neg_ℤ l.value))
    eval_grows scope (text n t) = grows_tick grows_pure
    eval_grows scope (truth n b) = grows_tick grows_pure
    eval_grows scope (nil n) = grows_tick grows_pure
    eval_grows scope (path n x []) = grows_tick (mentions_grows see n.note (variable_of scope x.name) x.name)
    eval_grows scope (path n x (field ∷ fields)) =
        grows_tick (looks_into_grows see (variable_of scope x.name) (names_of (field ∷ fields)))
    eval_grows scope (arrow n r fields) =
        grows_tick (grows_bind (reaches_grows see (variable_of scope r.name) (names_of fields)) reads_grows)
    eval_grows scope (call n f args c) =
        grows_bind (all_grow scope args) (λ values.
        grows_tick (calls_grows (see.callee n.note c f.name) (by_position values)))
    eval_grows scope (named_call n f args c) =
        grows_bind (named_grow scope args) (λ values.
        grows_tick (calls_grows (see.callee n.note c f.name) (by_labels (labelled (labels args) values))))
    eval_grows scope (parenthesized n e) = eval_grows scope e
    eval_grows scope (dereference n e) =
        grows_bind (operand_grows (alone scope e) (eval_grows scope e)) (λ x.
        grows_tick (grows_needing (reference_in x) reads_grows))
    eval_grows scope (borrow n mode x) =
        grows_tick (grows_needing (variable_of scope x.name) (λ x. lends_grows mode x.number))
    eval_grows scope (borrow_part n r fields) =
        grows_tick (grows_bind (reaches_grows see (variable_of scope r.name) (names_of fields)) (λ one.
        grows_pure))
    eval_grows scope (binary n op a b) =
        joins_grows (operation_of op) n.note (note_of a) (eval_grows scope a) (eval_grows scope b)
    eval_grows scope (negation n e) =
        grows_bind (eval_grows scope e) (λ x. grows_tick (grows_comes (negated x)))
    eval_grows scope (typed n e t) = eval_grows scope e
    eval_grows scope (choice n c a b) =
        grows_bind (eval_grows scope c) (λ x. grows_tick (grows_chosen x (eval_grows scope a)
        (eval_grows scope b)))

    all_grow : (scope : Scope) (es : Expressions Bytes T C)
        → Grows (eval_all see invoke scope es) (eval_all see invoke2 scope es)
    all_grow scope no_expressions = grows_pure
    all_grow scope (expressions e rest) =
        grows_bind (eval_grows scope e) (λ value. grows_bind (all_grow scope rest) (λ values. grows_pure))

    named_grow : (scope : Scope) (es : Arguments Bytes T C)
        → Grows (eval_named see invoke scope es) (eval_named see invoke2 scope es)
    named_grow scope no_arguments = grows_pure
    named_grow scope (arguments label e rest) =
        grows_bind (eval_grows scope e) (λ value. grows_bind (named_grow scope rest) (λ values. grows_pure))

  pub whole_grows : (scope : Scope) (e : Expression Bytes T C)
      → Grows (whole see invoke scope e) (whole see invoke2 scope e)
  whole_grows scope e = closing_grows (eval_grows scope e)
