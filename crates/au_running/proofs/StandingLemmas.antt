-- What the declarations that are found in a program declare isn't declared again.
use Rattle.std.proofs.Common.{◌≡◌, ℕ, zero, suc, ◌+◌, Bool, true, false, List, [], ◌∷◌, ◌++◌, map, Option}
use Rattle.std.proofs.Common.{None, Some, refl, sym, ap, ◌∙◌, subst, cond}
use Rattle.std.specs.Prelude.{find, slice_get}
use Rattle.std.specs.List.{flat_map}
use Rattle.std.specs.Option.{option_and_then, option_map}
use Rattle.std.proofs.lemmas.Option.{none-some, same_Some, slice_get-map}
use Rattle.au_base.proofs.OptionLemmas.{map_some}
use Rattle.au_syntax.specs.declared.modules.Part.{Part}
use Rattle.au_syntax.specs.declared.modules.Part.TheVariants.{Interface, Body}
use Rattle.au_syntax.specs.Modules.{Constrained, constant, opaque_type, record_type, union_type, function}
use Rattle.au_syntax.specs.Modules.{class, instance, constant_body, function_body, instance_body}
use Rattle.au_syntax.specs.Plain.{Bytes, PlainDeclaration}
use Rattle.au_types.specs.declared.types.DeclAt.{DeclAt}
use Rattle.au_modules.specs.Programs.{ModuleParts}
use Rattle.au_names.specs.declared.targets.Target.{Target}
use Rattle.au_names.specs.Meanings.{part_of}
use Rattle.au_names.specs.Owned.{declarations_in}
use Rattle.au_names.specs.Standing.{Standing, body_at, body_standing, defined_by, definition_for}
use Rattle.au_names.specs.Standing.{definition_of, is_whole, module_standing, opaque_name, standing_at}
use Rattle.au_names.specs.Standing.{standing_from, standing_in}
use Rattle.au_rules.specs.declared.marks.Kind.TheVariants.{Values, Callables}
use Rattle.au_rules.specs.declared.marks.Role.TheVariants.{Definition}
use Rattle.au_rules.specs.Marks.{block_marks, declared, function_marks, generic_mark, marks, method_body_marks}
use Rattle.au_rules.specs.Once.{AllNamesAreOnce, text_of}
use Rattle.au_rules.specs.Outside.{outside}
use Rattle.au_typing.specs.Trees.{NotedDeclaration, NotedEntry, NotedMethod, NotedParts, erase_block}
use Rattle.au_typing.specs.Trees.{erase_declaration, erase_entry, erase_method, erase_parts, erase_program}
use Rattle.au_closing.specs.Bodies.{BodyOf, body_at as noted_body_at, body_in, body_of, body_of_parts}
use Rattle.au_closing.specs.Bodies.{body_standing as body_of_standing, declared_in, defining_index, is_method}
use Rattle.au_closing.specs.Bodies.{method_body, noted_at}
use Rattle.au_running.proofs.MarkLemmas.{AreNewThere, first_new, inside_new, item_new, marks_written, rest_new}

-- ---- lists

-- each item of a list is so
abbrev pub AllAre : {A : Type 0} → (A → Type 0) → List A → Type 0
AllAre Is all = (index : ℕ) (one : _) → slice_get all index ≡ Some one → Is one

-- so are those of two lists, and what is found
joined : {A : Type 0} (Is : A → Type 0) (xs ys : List A) → AllAre Is xs → AllAre Is ys → AllAre Is (xs ++ ys)
joined Is [] ys one two index x is = two index x is
joined Is (y ∷ xs) ys one two zero x is = one 0 x is
joined Is (y ∷ xs) ys one two (suc index) x is = joined Is xs ys (λ i. one (suc i)) two index x is

found : {A : Type 0} (Is : A → Type 0) (test : A → Bool) (all : List A) → AllAre Is all → (one : A)
    → find test all ≡ Some one → Is one
found Is test [] each one is = absurd (none-some one is)
found {A} Is test (x ∷ rest) each one is = by (test x) is (found Is test rest (λ i. each (suc i)) one)
  where
    by : (b : Bool) → cond b (Some x) (find test rest) ≡ Some one → (find test rest ≡ Some one → Is one)
        → Is one
    by true is more = subst Is (same_Some x one is) (each 0 x refl)
    by false is more = more is

-- ---- declarations

-- what a declaration declares that stands in a program is new
abbrev pub IsNewStanding : Standing → Type 0
IsNewStanding s = AreNewThere (marks s.part s.says)

module _ (program : List ModuleParts) (once : AllNamesAreOnce program) where
  -- what a declaration of a part of a module declares
  part_new : (place : ℕ) (m : ModuleParts) → slice_get program place ≡ Some m → (part : Part)
      → AllAre (λ (d : PlainDeclaration). AreNewThere (marks part d)) (declarations_in (part_of part m))
  part_new place m is Interface index d there =
      item_new (marks Interface) (declarations_in m.interface) index d there (record {
        foreign = outside program place m Interface;
        before = [];
        new = (once place m is).interface;
      })
  part_new place m is Body index d there =
      item_new (marks Body) (declarations_in m.body) index d there (record {
        foreign = outside program place m Body;
        before = text_of Interface m;
        new = (once place m is).body;
      })

  from_new : (place : ℕ) (part : Part) (first : ℕ) (all : List PlainDeclaration)
      → AllAre (λ (d : PlainDeclaration). AreNewThere (marks part d)) all
      → AllAre IsNewStanding (standing_from place part first all)
  unfolding standing_from
  from_new place part first [] each index s is = absurd (none-some s is)
  from_new place part first (d ∷ all) each zero s is =
      subst IsNewStanding
      (same_Some (record { place = place; part = part; index = first; says = d }) s is) (each 0 d refl)
  from_new place part first (d ∷ all) each (suc index) s is =
      from_new place part (first + 1) all (λ i. each (suc i)) index s is

  bodies_new : (place : ℕ) (m : ModuleParts) → slice_get program place ≡ Some m
      → AllAre IsNewStanding (body_standing place m)
  bodies_new place m is = from_new place Body 0 (declarations_in m.body) (part_new place m is Body)

  module_new : (place : ℕ) (m : ModuleParts) → slice_get program place ≡ Some m
      → AllAre IsNewStanding (module_standing place m)
  module_new place m is =
      joined IsNewStanding (standing_from place Interface 0 (declarations_in m.interface))
      (body_standing place m)
      (from_new place Interface 0 (declarations_in m.interface) (part_new place m is Interface))
      (bodies_new place m is)

  in_new : (place number : ℕ) (o : Option ModuleParts) → slice_get program place ≡ o → (s : Standing)
      → standing_in place number o ≡ Some s → IsNewStanding s
  in_new place number None there s is = absurd (none-some s is)
  in_new place number (Some m) there s is = module_new place m there number s is

  body_at_new : (place : ℕ) (o : Option ModuleParts) → slice_get program place ≡ o
      → AllAre IsNewStanding (body_at place o)
  body_at_new place None there index s is = absurd (none-some s is)
  body_at_new place (Some m) there index s is = bodies_new place m there index s is

  -- what defines a declaration
  defined_new : (s : Standing) → IsNewStanding s → (name : Option Bytes) (d : Standing)
      → defined_by (body_at s.place (slice_get program s.place)) s name ≡ Some d → IsNewStanding d
  defined_new s new None d is = subst IsNewStanding (same_Some s d is) new
  defined_new s new (Some name) d is =
      found IsNewStanding (is_whole name) (body_at s.place (slice_get program s.place))
      (body_at_new s.place (slice_get program s.place) refl) d is

  for_new : (at : DeclAt) (o : Option Standing) → standing_at program at ≡ o → (d : Standing)
      → definition_for program o ≡ Some d → IsNewStanding d
  for_new at None there d is = absurd (none-some d is)
  for_new at (Some s) there d is =
      defined_new s (in_new at.«module» at.decl (slice_get program at.«module») refl s there)
      (opaque_name s.says) d is

  -- the definition of a type declares nothing again
  pub definition_new : (at : DeclAt) (d : Standing) → definition_of program at ≡ Some d → IsNewStanding d
  definition_new at d is = for_new at (standing_at program at) refl d is

-- ---- bodies with notes

-- the parameters of a body are new
abbrev pub IsNewBody : BodyOf → Type 0
IsNewBody body = AreNewThere (marks_written Values body.header.parameters)

abbrev IsNewMethod : NotedMethod → Type 0
IsNewMethod m = AreNewThere (method_body_marks (erase_method m))

method_new : (place : ℕ) (generics : List (Constrained Bytes)) (m : NotedMethod) → IsNewMethod m
    → IsNewBody (method_body place generics m)
method_new place generics m there =
    first_new (marks_written Values m.header.parameters) (block_marks (erase_block m.body))
    (inside_new (marks_written Values m.header.parameters ++ block_marks (erase_block m.body)) there)

methods_new : (methods : List NotedMethod)
    → AreNewThere (flat_map method_body_marks (map erase_method methods)) → AllAre IsNewMethod methods
methods_new methods there index m is =
    item_new method_body_marks (map erase_method methods) index (erase_method m)
    (slice_get-map erase_method methods index ∙ ap (option_map erase_method) is) there

-- so are those of the body that a declaration has under a name
declared_new : (place : ℕ) (name : Bytes) (d : NotedDeclaration)
    → AreNewThere (marks Body (erase_declaration d)) → (body : BodyOf) → body_in place name d ≡ Some body
    → IsNewBody body
declared_new place name (function_body at generics h block stop) there body is =
    let all = function_marks Definition generics h in
    let header = first_new all (block_marks (erase_block block))
    (inside_new (all ++ block_marks (erase_block block)) there) in
    let named = rest_new (map generic_mark generics)
    (declared Definition Callables h.name ∷ marks_written Values h.parameters) header in
    subst IsNewBody
    (same_Some (record { place = place; generics = generics; header = h; block = block }) body is)
    (rest_new (declared Definition Callables h.name ∷ []) (marks_written Values h.parameters) named)
declared_new place name (instance_body at generics its_class t methods) there body is =
    let all = flat_map method_body_marks (map erase_method methods) in
    let inside = rest_new (map generic_mark generics) all
    (inside_new (map generic_mark generics ++ all) there) in
    let its = map_some (method_body place generics) (find (is_method name) methods) body is in
    subst IsNewBody its.2
    (method_new place generics its.0
    (found IsNewMethod (is_method name) methods (methods_new methods inside) its.0 its.1))
declared_new place name (constant at n t) there body is = absurd (none-some body is)
declared_new place name (opaque_type at n ps u) there body is = absurd (none-some body is)
declared_new place name (record_type at n ps u fields) there body is = absurd (none-some body is)
declared_new place name (union_type at n ps u cases) there body is = absurd (none-some body is)
declared_new place name (function at gs h) there body is = absurd (none-some body is)
declared_new place name (class at n p hs) there body is = absurd (none-some body is)
declared_new place name (instance at gs n t) there body is = absurd (none-some body is)
declared_new place name (constant_body at n t e) there body is = absurd (none-some body is)

-- a declaration of a body stands there without its notes
erased_in : (o : Option NotedEntry) (index : ℕ) (d : NotedDeclaration)
    → slice_get (declared_in o) index ≡ Some d
    → slice_get (declarations_in (option_map erase_entry o)) index ≡ Some (erase_declaration d)
erased_in None index d is = absurd (none-some d is)
erased_in (Some entry) index d is =
    slice_get-map erase_declaration entry.tree.declarations index ∙ ap (option_map erase_declaration) is

module _ (program : List ModuleParts) (noted : List NotedParts) (erased : erase_program noted ≡ program)
    (once : AllNamesAreOnce program) where
  erased_new : (place index : ℕ) (o : Option NotedParts) → slice_get noted place ≡ o → (d : NotedDeclaration)
      → slice_get (body_of_parts o) index ≡ Some d → AreNewThere (marks Body (erase_declaration d))
  erased_new place index None there d is = absurd (none-some d is)
  erased_new place index (Some m) there d is =
      part_new program once place (erase_parts m)
      (sym (ap (λ p. slice_get p place) erased) ∙ slice_get-map erase_parts noted place
      ∙ ap (option_map erase_parts) there)
      Body index (erase_declaration d) (erased_in m.body index d is)

  indexed_new : (place : ℕ) (name : Bytes) (index : Option ℕ) (body : BodyOf)
      → option_and_then (body_in place name) (noted_at noted place index) ≡ Some body → IsNewBody body
  indexed_new place name None body is = absurd (none-some body is)
  indexed_new place name (Some index) body is =
      by (slice_get (noted_body_at noted place) index) refl is
    where
      by : (o : Option NotedDeclaration) → slice_get (noted_body_at noted place) index ≡ o
          → option_and_then (body_in place name) o ≡ Some body → IsNewBody body
      by None there is = absurd (none-some body is)
      by (Some d) there is =
          declared_new place name d (erased_new place index (slice_get noted place) refl d there) body is

  under_new : (name : Bytes) (o : Option Standing) (body : BodyOf)
      → body_of_standing program noted name o ≡ Some body → IsNewBody body
  under_new name None body is = absurd (none-some body is)
  under_new name (Some d) body is = indexed_new d.place name (defining_index program d d.part) body is

  -- the parameters of each body of the program are new
  pub body_new : (target : Target) (body : BodyOf) → body_of program noted target ≡ Some body → IsNewBody body
  body_new target body is = under_new target.name (standing_at program target.at) body is
