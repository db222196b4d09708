-- What a declaration mentions as declared is what it brings in.
use Rattle.std.proofs.Common.{◌≡◌, ◌⊎◌, inl, inr, List, [], ◌∷◌, ◌++◌, map, refl, ap, subst}
use Rattle.std.specs.List.{flat_map}
use Rattle.au_base.specs.declared.places.Pos.{Pos}
use Rattle.au_syntax.specs.Modules.{
  Constrained,
  Header,
  Variant,
  constant,
  opaque_type,
  record_type,
  union_type,
  function,
  class,
  instance,
  constant_body,
  function_body,
  instance_body,
}
use Rattle.au_syntax.specs.Names.{Placed}
use Rattle.au_syntax.specs.Plain.{Bytes, PlainDeclaration, PlainExpression}
use Rattle.au_syntax.specs.Sizes.{expression_types}
use Rattle.au_syntax.specs.Types.{WrittenType, WrittenTypes, Labelled, named, reference, no_types, types}
use Rattle.au_types.specs.declared.spaces.Space.{Space}
use Rattle.au_types.specs.declared.spaces.Space.TheVariants.{Values, Callables, Types}
use Rattle.au_types.specs.DeclaredNames.{value_names, callable_names, type_names, declared_names}
use Rattle.au_promises.specs.declared.mentions.Mention.{Mention}
use Rattle.au_promises.specs.declared.mentions.Mention.TheVariants.{Declares, Writes}
use Rattle.au_promises.specs.Mentions.{
  writes,
  type_mentions,
  argument_mentions,
  value_mentions,
  labelled_mentions,
  constraint_mentions,
  header_mentions,
  function_mentions,
  case_mentions,
  method_mentions,
  instance_mentions,
  mentions,
}
use Rattle.au_names.proofs.AmongLemmas.{
  Among,
  among-append,
  among-append_right,
  among-flat_map,
  among-flat_map_from,
}

-- ---- parts of lists

pub among-map : {A B : Type 0} (f : A → B) (xs : List A) (y : B) → Among y (map f xs)
    → (x : A) × Among x xs × (f x ≡ y)
among-map f [] y m = absurd m
among-map f (x ∷ xs) y (inl here) = (x, inl refl, here)
among-map f (x ∷ xs) y (inr later) =
    let found = among-map f xs y later in
    (found.0, inr found.1, found.2)

pub among-map_from : {A B : Type 0} (f : A → B) (xs : List A) (x : A) → Among x xs → Among (f x) (map f xs)
among-map_from f [] x m = absurd m
among-map_from f (y ∷ ys) x (inl here) = inl (ap f here)
among-map_from f (y ∷ ys) x (inr later) = inr (among-map_from f ys x later)

module _ (P : Mention → Type 0) where
  both : (xs ys : List Mention) (x : Mention) → (Among x xs → P x) → (Among x ys → P x)
      → Among x (xs ++ ys) → P x
  both xs ys x first second m = by (among-append xs ys x m)
    where
      by : Among x xs ⊎ Among x ys → P x
      by (inl n) = first n
      by (inr n) = second n

  head_or : (y : Mention) (ys : List Mention) (x : Mention) → P y → (Among x ys → P x)
      → Among x (y ∷ ys) → P x
  head_or y ys x first rest (inl here) = subst P here first
  head_or y ys x first rest (inr later) = rest later

  each : {A : Type 0} (f : A → List Mention) (xs : List A) (x : Mention)
      → ((a : A) → Among a xs → Among x (f a) → P x) → Among x (flat_map f xs) → P x
  each f xs x one m =
      let found = among-flat_map f xs x m in
      one found.0 found.1 found.2

-- ---- what is written declares nothing

abbrev IsWritten : Mention → Type 0
IsWritten (Declares space name at) = ⊥
IsWritten (Writes name at) = Unit {0}

writes_written : (name : Placed Bytes) (x : Mention) → Among x (writes name) → IsWritten x
writes_written name x m = head_or IsWritten (Writes name.name name.at) [] x tt (λ none. absurd none) m

mutual
  unfolding type_mentions argument_mentions

  type_written : (t : WrittenType) (x : Mention) → Among x (type_mentions t) → IsWritten x
  type_written (named name args) x m = both IsWritten (writes name) (argument_mentions args) x
      (writes_written name x) (arguments_written args x) m
  type_written (reference at access target region) x m = both IsWritten (type_mentions target)
      (writes region) x (type_written target x) (writes_written region x) m

  arguments_written : (ts : WrittenTypes) (x : Mention) → Among x (argument_mentions ts) → IsWritten x
  arguments_written no_types x m = absurd m
  arguments_written (types t rest) x m = both IsWritten (type_mentions t)
      (argument_mentions rest) x (type_written t x) (arguments_written rest x) m

value_written : (value : PlainExpression) (x : Mention) → Among x (value_mentions value) → IsWritten x
unfolding value_mentions
value_written value x m = each IsWritten type_mentions (expression_types value) x
    (λ t one n. type_written t x n) m

fields_written : (fields : List (Labelled Bytes)) (x : Mention) → Among x (flat_map labelled_mentions fields)
    → IsWritten x
fields_written fields x m = each IsWritten labelled_mentions fields x
    (λ field one n. type_written field.of x n) m

constraints_written : (generics : List (Constrained Bytes)) (x : Mention)
    → Among x (flat_map constraint_mentions generics) → IsWritten x
constraints_written generics x m =
    each IsWritten constraint_mentions generics x
    (λ p one n. each IsWritten writes p.classes x (λ name two k. writes_written name x k) n) m

header_written : (h : Header Bytes) (x : Mention) → Among x (header_mentions h) → IsWritten x
header_written h x m = both IsWritten (flat_map labelled_mentions h.parameters)
    (type_mentions h.result) x (fields_written h.parameters x) (type_written h.result x) m

instance_written : (generics : List (Constrained Bytes)) (name : Placed Bytes) (t : WrittenType) (x : Mention)
    → Among x (instance_mentions generics name t) → IsWritten x
instance_written generics name t x m =
    both IsWritten (flat_map constraint_mentions generics ++ writes name) (type_mentions t) x
    (both IsWritten (flat_map constraint_mentions generics) (writes name) x
    (constraints_written generics x) (writes_written name x))
    (type_written t x) m

-- ---- what is declared is brought in

-- what a mention of a declaration declares the declaration brings in
abbrev Fits : PlainDeclaration → Mention → Type 0
Fits d (Declares space name at) = Among name (declared_names space d)
Fits d (Writes name at) = Unit {0}

written_fits : (d : PlainDeclaration) (x : Mention) → IsWritten x → Fits d x
written_fits d (Declares space name at) h = absurd h
written_fits d (Writes name at) h = tt

function_fits : (d : PlainDeclaration) (h : Header Bytes) (x : Mention)
    → Among h.name.name (declared_names Callables d) → Among x (function_mentions h) → Fits d x
function_fits d h x declared m =
    head_or (Fits d) (Declares Callables h.name.name h.name.at) (header_mentions h) x declared
    (λ n. written_fits d x (header_written h x n)) m

case_fits : (d : PlainDeclaration) (c : Variant Bytes) (x : Mention)
    → Among c.name.name (declared_names Callables d) → Among x (case_mentions c) → Fits d x
case_fits d c x declared m =
    head_or (Fits d) (Declares Callables c.name.name c.name.at)
    (flat_map labelled_mentions c.fields) x declared (λ n. written_fits d x (fields_written c.fields x n))
    m

generic_fits : (d : PlainDeclaration) (generics : List (Constrained Bytes)) (h : Header Bytes) (x : Mention)
    → Among h.name.name (declared_names Callables d)
    → Among x (flat_map constraint_mentions generics ++ function_mentions h) → Fits d x
generic_fits d generics h x declared m =
    both (Fits d) (flat_map constraint_mentions generics) (function_mentions h) x
    (λ n. written_fits d x (constraints_written generics x n)) (function_fits d h x declared) m

mention_fits : (d : PlainDeclaration) (x : Mention) → Among x (mentions d) → Fits d x
mention_fits (constant at name t) x m =
    let d : PlainDeclaration = constant at name t in
    head_or (Fits d) (Declares Values name.name name.at) (type_mentions t) x
    (inl refl) (λ n. written_fits d x (type_written t x n)) m
mention_fits (opaque_type at name parameters universe) x m =
    head_or (Fits (opaque_type at name parameters universe)) (Declares Types name.name name.at) [] x
    (inl refl) (λ none. absurd none) m
mention_fits (record_type at name parameters universe fields) x m =
    let d : PlainDeclaration = record_type at name parameters universe fields in
    head_or (Fits d) (Declares Callables name.name name.at)
    (Declares Types name.name name.at ∷ flat_map labelled_mentions fields) x (inl refl)
    (head_or (Fits d) (Declares Types name.name name.at) (flat_map labelled_mentions fields) x
    (inl refl) (λ n. written_fits d x (fields_written fields x n))) m
mention_fits (union_type at name parameters universe cases) x m =
    let d : PlainDeclaration = union_type at name parameters universe cases in
    head_or (Fits d) (Declares Types name.name name.at) (flat_map case_mentions cases) x (inl refl)
    (each (Fits d) case_mentions cases x (λ c one n. case_fits d c x
    (among-map_from (λ (v : Variant Bytes). v.name.name) cases c one) n)) m
mention_fits (function at generics header) x m = generic_fits (function at generics header) generics header x
    (inl refl) m
mention_fits (class at name parameter methods) x m =
    let d : PlainDeclaration = class at name parameter methods in
    head_or (Fits d) (Declares Types name.name name.at) (flat_map function_mentions methods) x (inl refl)
    (each (Fits d) function_mentions methods x (λ h one n. function_fits d h x
    (among-map_from (λ (k : Header Bytes). k.name.name) methods h one) n)) m
mention_fits (instance at generics name t) x m = written_fits (instance at generics name t) x
    (instance_written generics name t x m)
mention_fits (constant_body at name t value) x m =
    let d : PlainDeclaration = constant_body at name t value in
    head_or (Fits d) (Declares Values name.name name.at) (type_mentions t ++ value_mentions value) x
    (inl refl)
    (λ n. written_fits d x (both IsWritten (type_mentions t) (value_mentions value) x
    (type_written t x) (value_written value x) n)) m
mention_fits (function_body at generics header body stop) x m =
    generic_fits (function_body at generics header body stop) generics header x (inl refl) m
mention_fits (instance_body at generics name t methods) x m =
    written_fits (instance_body at generics name t methods) x
    (both IsWritten (instance_mentions generics name t) (flat_map method_mentions methods) x
    (instance_written generics name t x)
    (each IsWritten method_mentions methods x (λ one two n. header_written one.header x n)) m)

pub declared_of_mention : (d : PlainDeclaration) (space : Space) (name : Bytes) (at : Pos)
    → Among (Declares space name at) (mentions d) → Among name (declared_names space d)
declared_of_mention d space name at m = mention_fits d (Declares space name at) m

-- ---- what is brought in is mentioned

value_mention : (d : PlainDeclaration) (name : Bytes) → Among name (value_names d)
    → (at : Pos) × Among (Declares Values name at) (mentions d)
value_mention (constant at own t) name (inl here) = (own.at, inl (ap (λ n. Declares Values n own.at) here))
value_mention (constant at own t) name (inr none) = absurd none
value_mention (constant_body at own t value) name (inl here) =
    (own.at, inl (ap (λ n. Declares Values n own.at) here))
value_mention (constant_body at own t value) name (inr none) = absurd none
value_mention other name m = absurd m

type_mention : (d : PlainDeclaration) (name : Bytes) → Among name (type_names d)
    → (at : Pos) × Among (Declares Types name at) (mentions d)
type_mention (opaque_type at own parameters universe) name (inl here) =
    (own.at, inl (ap (λ n. Declares Types n own.at) here))
type_mention (opaque_type at own parameters universe) name (inr none) = absurd none
type_mention (record_type at own parameters universe fields) name (inl here) =
    (own.at, inr (inl (ap (λ n. Declares Types n own.at) here)))
type_mention (record_type at own parameters universe fields) name (inr none) = absurd none
type_mention (union_type at own parameters universe cases) name (inl here) =
    (own.at, inl (ap (λ n. Declares Types n own.at) here))
type_mention (union_type at own parameters universe cases) name (inr none) = absurd none
type_mention (class at own parameter methods) name (inl here) =
    (own.at, inl (ap (λ n. Declares Types n own.at) here))
type_mention (class at own parameter methods) name (inr none) = absurd none
type_mention other name m = absurd m

generic_mention : (generics : List (Constrained Bytes)) (h : Header Bytes) (name : Bytes) → h.name.name ≡ name
    → (at : Pos) × Among (Declares Callables name at)
    (flat_map constraint_mentions generics ++ function_mentions h)
generic_mention generics h name here = (
  h.name.at,
  among-append_right (flat_map constraint_mentions generics)
      (function_mentions h) (Declares Callables name h.name.at)
      (inl (ap (λ n. Declares Callables n h.name.at) here)),
)

callable_mention : (d : PlainDeclaration) (name : Bytes) → Among name (callable_names d)
    → (at : Pos) × Among (Declares Callables name at) (mentions d)
callable_mention (record_type at own parameters universe fields) name (inl here) =
    (own.at, inl (ap (λ n. Declares Callables n own.at) here))
callable_mention (record_type at own parameters universe fields) name (inr none) = absurd none
callable_mention (union_type at own parameters universe cases) name m =
    let found = among-map (λ (c : Variant Bytes). c.name.name) cases name m in
    let place : Pos = found.0.name.at in (
      place,
      inr (among-flat_map_from case_mentions cases found.0 (Declares Callables name place) found.1
          (inl (ap (λ n. Declares Callables n place) found.2))),
    )
callable_mention (class at own parameter methods) name m =
    let found = among-map (λ (h : Header Bytes). h.name.name) methods name m in
    let place : Pos = found.0.name.at in (
      place,
      inr (among-flat_map_from function_mentions methods found.0 (Declares Callables name place) found.1
          (inl (ap (λ n. Declares Callables n place) found.2))),
    )
callable_mention (function at generics header) name (inl here) = generic_mention generics header name here
callable_mention (function at generics header) name (inr none) = absurd none
callable_mention (function_body at generics header body stop) name (inl here) =
    generic_mention generics header name here
callable_mention (function_body at generics header body stop) name (inr none) = absurd none
callable_mention other name m = absurd m

pub mention_of_declared : (d : PlainDeclaration) (space : Space) (name : Bytes)
    → Among name (declared_names space d) → (at : Pos) × Among (Declares space name at) (mentions d)
mention_of_declared d Values name m = value_mention d name m
mention_of_declared d Callables name m = callable_mention d name m
mention_of_declared d Types name m = type_mention d name m
