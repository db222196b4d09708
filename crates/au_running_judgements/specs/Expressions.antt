-- The judgement of an expression that is run: of which running type its value is, by what the meaning asks
-- of the tree and its notes, and nothing else.
use Rattle.std.specs.Prelude.{◌≡◌, ◌⊎◌, ℕ, Bool, true, false, List, [], ◌∷◌, length, Option, Some, None}
use Rattle.std.specs.Prelude.{neg_ℤ}
use Rattle.au_base.specs.declared.kinds.IntKind.{IntKind}
use Rattle.au_ints.specs.declared.operations.Order.{Order}
use Rattle.au_ints.specs.declared.operations.Order.TheVariants as order
use Rattle.au_ints.specs.Ranges.{is_of_kind}
use Rattle.au_running_types.specs.Running.{token}
use Rattle.au_type_texts.specs.Types.{ClosedType}
use Rattle.au_types.specs.declared.types.Region.{Region}
use Rattle.au_types.specs.Types as type
use Rattle.au_types.specs.Types.{Meaning, integer, reads, writes}
use Rattle.au_syntax.specs.declared.expressions.BorrowMode.{BorrowMode}
use Rattle.au_syntax.specs.declared.expressions.BorrowMode.TheVariants as mode
use Rattle.au_syntax.specs.Expressions.{Expression, Expressions, Arguments, number, negative, text, truth}
use Rattle.au_syntax.specs.Expressions.{nil, path, arrow, call, named_call, parenthesized, dereference}
use Rattle.au_syntax.specs.Expressions.{borrow, borrow_part, binary, negation, typed, choice, no_expressions}
use Rattle.au_syntax.specs.Expressions.{expressions, no_arguments, arguments}
use Rattle.au_syntax.specs.Plain.{Bytes}
use Rattle.au_meaning.specs.Expressions.{Operation, alone, compared_kind, computes, compares, is_and, is_or}
use Rattle.au_meaning.specs.Expressions.{kind_in}
use Rattle.au_meaning.specs.Expressions.{labels, names_of, note_of, operation_of}
use Rattle.au_meaning.specs.Names.{Scope, Variable, path_numbers, target_behind, variable_of}
use Rattle.au_meaning.specs.Views.{Act, Callee, View, invokes, makes, ships}
use Rattle.au_meaning.specs.Worlds.{Value}
use Rattle.au_memory.specs.Loans.{Types}
use Rattle.au_memory.specs.Shown.{IsPlain}
use Rattle.au_lending.specs.Seeing.{LeadsOn}
use Rattle.au_safe_steps.specs.Sound.{IsHomeOf}
use Rattle.au_running_judgements.specs.Known.{AreActive, Callables, InScope, IsReference}
use Rattle.au_safe_steps.specs.Orders.{AreApart, IsReordered}
use Rattle.au_running_judgements.specs.Picking.{AreTypesUnder}
use Rattle.au_running_judgements.specs.Shipping.{Ships}
use Rattle.au_running_judgements.specs.Uses.{IsKept}

-- two things are compared only for whether they are equal
abbrev pub IsEquality : Order → Type 0
IsEquality order.Equal = Unit {0}
IsEquality order.NotEqual = Unit {0}
IsEquality other = ⊥

-- what is known of types, of whose they are, of notes, and of what may be called
module _ (types : Types) (owner : ClosedType → Option (List ℕ)) {I T C K : Type 0} (see : View I T C)
    (known : Callables I K) where
  -- a value of a type is born where the type isn't Free, at home in its own module
  abbrev pub Bears : ClosedType → Bytes → Bool → Meaning → Type 0
  Bears of home true t = (types.is_free t ≡ false) × IsHomeOf owner of home
  Bears of home false t = types.is_free t ≡ true

  -- what a call does with arguments of such types is of this type
  abbrev pub Performs : (ℕ → Bool) → Act I → List Meaning → Meaning → Type 0
  Performs active (invokes one) kinds t =
      (key : K) × (known.of key ≡ one) × (known.parameters key ≡ kinds) × (known.result key ≡ t)
      × AreActive active (known.tokens key)
  Performs active (makes of tag home) kinds t =
      (types.fields t tag ≡ Some kinds) × Bears of home (see.is_linear of) t
  Performs active (ships prim born) kinds t = Ships types owner active prim born kinds t

  -- an operator on operands of such types, of which the second may be left out where it consumes nothing
  abbrev pub Joins : Operation → T → T → (Meaning → Type 0) → (Meaning → Type 0) → Type 0 → Meaning → Type 0
  Joins (computes op) whole first A B kept t =
      (kind : IntKind) × (kind_in (see.type_of whole) ≡ Some kind) × A (integer kind) × B (integer kind)
      × (t ≡ integer kind)
  Joins (compares op) whole first A B kept t =
      (t ≡ type.truth)
      × (((kind : IntKind) × (compared_kind (see.type_of first) ≡ Some (Some kind)) × A (integer kind)
      × B (integer kind))
      ⊎ ((compared_kind (see.type_of first) ≡ Some None) × IsEquality op × A type.truth × B type.truth))
  Joins is_and whole first A B kept t = (t ≡ type.truth) × A type.truth × B type.truth × kept
  Joins is_or whole first A B kept t = (t ≡ type.truth) × A type.truth × B type.truth × kept

  -- These are the running types of names; this is the token of the whole expression; and these tokens are
  -- active, it among them.
  module _ (names : ℕ → Meaning) (here : ℕ) (active : ℕ → Bool) where
    -- a name alone: a variable, of whose type a copy is made only where it is Free; or a constant
    abbrev pub Mentions : Option Variable → T → Bytes → Meaning → Type 0
    Mentions (Some x) note name t = (names x.number ≡ t) × (see.is_free note ≡ true → types.is_free t ≡ true)
    Mentions None note name t = (value : Value) × (see.constant note name ≡ Some value) × IsPlain value t

    -- a part of Free type of a variable
    abbrev pub LooksInto : Option Variable → List Bytes → Meaning → Type 0
    LooksInto None fields t = ⊥
    LooksInto (Some x) fields t =
        (numbers : List ℕ) × (path_numbers (λ of. see.fields of 0) x.of fields ≡ Some numbers)
        × LeadsOn types (names x.number) numbers t × (types.is_free t ≡ true)

    -- a part of what the reference in a variable refers to, in a region
    abbrev pub Reaches : Option Variable → List Bytes → Region → Meaning → (Meaning → Type 0) → Type 0
    Reaches None fields region t IsRef = ⊥
    Reaches (Some x) fields region t IsRef =
        (numbers : List ℕ) × (of : Meaning)
        × (path_numbers (λ u. see.fields u 0) (target_behind x.of) fields ≡ Some numbers) × IsRef of
        × InScope active region × LeadsOn types of numbers t

    -- a borrow of a variable for the whole expression
    abbrev pub Borrows : BorrowMode → Option Variable → Meaning → Type 0
    Borrows m None t = ⊥
    Borrows mode.Read (Some x) t = t ≡ reads (names x.number) (token here)
    Borrows mode.Write (Some x) t = t ≡ writes (names x.number) (token here)
    Borrows mode.Reborrow (Some x) t =
        (of : Meaning) × (region : Region) × (names x.number ≡ writes of region) × InScope active region
        × (t ≡ writes of (token here))

    -- what `!` stands before: a variable, or an expression of one of these types
    abbrev pub Refers : Option Variable → (Meaning → Type 0) → Meaning → Type 0
    Refers None A r = A r
    Refers (Some x) A r = names x.number ≡ r

    -- the type of the variable of a name
    abbrev pub IsNamed : Option Variable → Meaning → Type 0
    IsNamed None r = ⊥
    IsNamed (Some x) r = names x.number ≡ r

    abbrev mutual
      -- an expression is of a running type
      pub IsOf : Scope → Expression Bytes T C → Meaning → Type 0
      IsOf scope (number n l) t =
          (kind : IntKind) × (kind_in (see.type_of n.note) ≡ Some kind) × (is_of_kind kind l.value ≡ true)
          × (t ≡ integer kind)
      IsOf scope (negative n l) t =
          (kind : IntKind) × (kind_in (see.type_of n.note) ≡ Some kind)
          × (is_of_kind kind (neg_ℤ l.value) ≡ true) × (t ≡ integer kind)
      IsOf scope (text n bytes) t = t ≡ type.text
      IsOf scope (truth n b) t = t ≡ type.truth
      IsOf scope (nil n) t = t ≡ type.unit
      IsOf scope (path n x []) t = Mentions (variable_of scope x.name) n.note x.name t
      IsOf scope (path n x (field ∷ fields)) t =
          LooksInto (variable_of scope x.name) (names_of (field ∷ fields)) t
      IsOf scope (arrow n r fields) t =
          (region : Region) × (types.is_free t ≡ true)
          × Reaches (variable_of scope r.name) (names_of fields) region t
          (λ of. (one : Meaning) × IsNamed (variable_of scope r.name) one × IsReference types one of region)
      IsOf scope (call n f args c) t =
          (one : Callee I) × (kinds : List Meaning) × (see.callee n.note c f.name ≡ Some one)
          × AreOf scope args kinds × (length kinds ≡ length one.parameters) × Performs active one.act kinds t
      IsOf scope (named_call n f args c) t =
          (one : Callee I) × (kinds ordered : List Meaning) × (see.callee n.note c f.name ≡ Some one)
          × NamedAreOf scope args kinds × AreApart (labels args) × IsReordered one.parameters (labels args)
          × AreTypesUnder one.parameters (labels args) kinds ordered × Performs active one.act ordered t
      IsOf scope (parenthesized n e) t = IsOf scope e t
      IsOf scope (dereference n e) t =
          (r : Meaning) × (region : Region) × IsReference types r t region × InScope active region
          × (types.is_free t ≡ true) × Refers (alone scope e) (IsOf scope e) r
      IsOf scope (borrow n m x) t = Borrows m (variable_of scope x.name) t
      IsOf scope (borrow_part n r fields) t =
          (region : Region) × (part : Meaning) × (t ≡ reads part region)
          × Reaches (variable_of scope r.name) (names_of fields) region part
          (λ of. IsNamed (variable_of scope r.name) (reads of region)
          × (types.is_free (reads of region) ≡ true))
      IsOf scope (binary n op a b) t =
          Joins (operation_of op) n.note (note_of a) (IsOf scope a) (IsOf scope b)
          ((k : ℕ) → IsKept see k scope b)
          t
      IsOf scope (negation n e) t = IsOf scope e type.truth × (t ≡ type.truth)
      IsOf scope (typed n e written) t = IsOf scope e t
      IsOf scope (choice n c a b) t =
          IsOf scope c type.truth × IsOf scope a t × IsOf scope b t
          × ((k : ℕ) → IsKept see k scope a × IsKept see k scope b)

      -- arguments are of these types, in the order of the text
      pub AreOf : Scope → Expressions Bytes T C → List Meaning → Type 0
      AreOf scope no_expressions kinds = kinds ≡ []
      AreOf scope (expressions e rest) kinds =
          (t : Meaning) × (others : List Meaning) × (kinds ≡ t ∷ others) × IsOf scope e t
          × AreOf scope rest others

      pub NamedAreOf : Scope → Arguments Bytes T C → List Meaning → Type 0
      NamedAreOf scope no_arguments kinds = kinds ≡ []
      NamedAreOf scope (arguments label e rest) kinds =
          (t : Meaning) × (others : List Meaning) × (kinds ≡ t ∷ others) × IsOf scope e t
          × NamedAreOf scope rest others
