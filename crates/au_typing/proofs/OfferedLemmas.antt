-- What other modules offer stands in their interfaces.
use Rattle.std.proofs.Common.{◌≡◌, ℕ, zero, suc, ◌+◌, ◌<◌, ◌⊎◌, inl, inr, Bool, true, false, cond, List, []}
use Rattle.std.proofs.Common.{◌∷◌, ◌++◌, length, map, filter, find, Option, None, Some, refl, sym, ap, ◌∙◌}
use Rattle.std.proofs.Common.{subst, arith}
use Rattle.std.specs.Prelude.{Contains, nat_lt, slice_get, slice_index_or}
use Rattle.std.specs.List.{flat_map}
use Rattle.std.specs.Option.{option_map}
use Rattle.std.specs.Str.{bytes_eq}
use Rattle.std.proofs.lemmas.List.Elements.{Contains-append_cases}
use Rattle.std.proofs.lemmas.Option.{none-some, same_Some}
use Rattle.au_base.proofs.ListLemmas.{in_either}
use Rattle.au_syntax.specs.declared.modules.Part.{Part}
use Rattle.au_syntax.specs.declared.modules.Part.TheVariants.{Interface, Body}
use Rattle.au_syntax.specs.Modules.{Importing}
use Rattle.au_syntax.specs.Names.{Renaming}
use Rattle.au_syntax.specs.Parts.{Each}
use Rattle.au_syntax.specs.Plain.{Bytes, PlainDeclaration}
use Rattle.au_syntax.specs.Sizes.{joined}
use Rattle.au_syntax.proofs.PartLemmas.{both_hold}
use Rattle.au_types.specs.declared.spaces.Space.{Space}
use Rattle.au_types.specs.declared.spaces.Space.TheVariants.{Values, Callables, Types}
use Rattle.au_types.specs.DeclaredNames.{declared_names, given, names_in, numbered}
use Rattle.au_types.specs.Tables as tables
use Rattle.au_types.specs.declared.types.DeclAt.{DeclAt}
use Rattle.au_modules.specs.Programs.{ModuleParts}
use Rattle.au_names.specs.declared.targets.Target.{Target}
use Rattle.au_names.specs.Importing.{along, brings, brought, brought_from, earlier, given_name, imported}
use Rattle.au_names.specs.Importing.{is_type, members, members_of, place_of, renamed, source}
use Rattle.au_names.specs.Meanings.{imports_in, offered, part_of, pervasive}
use Rattle.au_names.specs.Owned.{declarations_in, declarations_of, exported, interface_of, own, target, targets}
use Rattle.au_names.specs.Standing.{Standing, body_at, body_standing, defined_by, definition_for}
use Rattle.au_names.specs.Standing.{definition_of, is_whole, module_standing, opaque_name, standing_at}
use Rattle.au_names.specs.Standing.{standing_from, standing_in}
use Rattle.au_names.proofs.SeenLemmas.{seen_meant}
use Rattle.au_names.proofs.DefinitionLemmas.{module_place}
use Rattle.au_typing.specs.Written.{seen_at, seen_in}
use Rattle.au_typing.proofs.NumberLemmas.{found_there, stands_at, stands_count, there}

-- ---- lists

module _ {X : Type 0} (P : X → Type 0) where
  each_filter : (p : X → Bool) (xs : List X) → Each P xs → Each P (filter p xs)
  each_filter p [] a = tt
  each_filter p (x ∷ xs) a = by (p x) (each_filter p xs a.1)
    where
      by : (b : Bool) → Each P (filter p xs) → Each P (cond b (x ∷ filter p xs) (filter p xs))
      by true rest = (a.0, rest)
      by false rest = rest

  each_flat : {Y : Type 0} (f : Y → List X) → ((y : Y) → Each P (f y)) → (ys : List Y) → Each P (flat_map f ys)
  each_flat f h [] = tt
  each_flat f h (y ∷ ys) = both_hold P (f y) (flat_map f ys) (h y) (each_flat f h ys)

  each_at : (xs : List X) (k : ℕ) (x : X) → k < length xs → slice_index_or xs k x ≡ x → Each P xs → P x
  each_at [] k x h e a = absurd (omega (arith, h))
  each_at (y ∷ xs) zero x h e a = subst P e a.0
  each_at (y ∷ xs) (suc k) x h e a = each_at xs k x (omega (arith, h)) e a.1

  each_in : (xs : List X) (x : X) → Contains xs x → Each P xs → P x
  each_in xs x c a = each_at xs c.0 x c.1 c.2 a

each_map : {X Y : Type 0} (P : X → Type 0) (Q : Y → Type 0) (f : X → Y) → ((x : X) → P x → Q (f x)) →
    (xs : List X) → Each P xs → Each Q (map f xs)
each_map P Q f h [] a = tt
each_map P Q f h (x ∷ xs) a = (h x a.0, each_map P Q f h xs a.1)

-- ---- numbers of declarations

-- a number of one of so many declarations, the first of which has this number
abbrev pub IsBelow : ℕ → {A : Type 0} → A × ℕ → Type 0
IsBelow most p = p.1 < most

given_below : (number most : ℕ) (names : List Bytes) → number < most → Each (IsBelow most) (given number names)
given_below number most [] h = tt
given_below number most (name ∷ names) h = (h, given_below number most names h)

names_below : (space : Space) (first most : ℕ) (ds : List PlainDeclaration) → first + length ds ≡ most →
    Each (IsBelow most) (names_in space (numbered first ds))
unfolding names_in numbered
names_below space first most [] h = tt
names_below space first most (d ∷ ds) h =
    let less : first < most = omega (arith, h) in
    let next : first + 1 + length ds ≡ most = omega (arith, h) in
    both_hold (IsBelow most) (given first (declared_names space d)) (names_in space (numbered (first + 1) ds))
    (given_below first most (declared_names space d) less)
    (names_below space (first + 1) most ds next)

found_below : (p : ℕ × PlainDeclaration → Bool) (first most : ℕ) (ds : List PlainDeclaration)
    (d : ℕ × PlainDeclaration) → first + length ds ≡ most → find p (numbered first ds) ≡ Some d → d.0 < most
unfolding numbered
found_below p first most [] d h k = absurd (none-some d k)
found_below p first most (x ∷ ds) d h k =
    let less : first < most = omega (arith, h) in
    let next : first + 1 + length ds ≡ most = omega (arith, h) in
    by less (p (first, x)) k (λ on. found_below p (first + 1) most ds d next on)
  where
    by : first < most → (b : Bool) → cond b (Some (first, x)) (find p (numbered (first + 1) ds)) ≡ Some d →
        (find p (numbered (first + 1) ds) ≡ Some d → d.0 < most) → d.0 < most
    by less true e on = subst (λ (one : ℕ × PlainDeclaration). one.0 < most) (same_Some (first, x) d e) less
    by less false e on = on e

-- ---- what an interface offers

-- what is meant is a declaration of the interface of a module that is there, or in one
pub record IsOffered (program : List ModuleParts) (meaning : Target) : Type 0 where
  pub owner : ModuleParts
  pub there : slice_get program meaning.at.«module» ≡ Some owner
  pub below : meaning.at.decl < length (declarations_in owner.interface)

abbrev pub Offers : List ModuleParts → Bytes × Target → Type 0
Offers program p = IsOffered program p.1

module _ (program : List ModuleParts) (place : ℕ) (m : ModuleParts) (here : slice_get program place ≡ Some m) where
  targets_offered : (names : List (Bytes × ℕ)) → Each (IsBelow (length (declarations_in m.interface))) names →
      Each (Offers program) (targets place names)
  targets_offered names h = each_map (IsBelow (length (declarations_in m.interface))) (Offers program)
      (λ p. (p.0, target place p.0 p.1)) (λ p less. record { owner = m; there = here; below = less }) names h

  exported_offered : (space : Space) → Each (Offers program) (exported space place m)
  exported_offered space =
      let all : 0 + length (declarations_in m.interface) ≡ length (declarations_in m.interface) = omega arith in
      targets_offered (names_in space (interface_of m))
      (names_below space 0 (length (declarations_in m.interface)) (declarations_in m.interface) all)

  renamed_offered : (name local : Bytes) (pairs : List (Bytes × Target)) → Each (Offers program) pairs →
      Each (Offers program) (renamed name local pairs)
  renamed_offered name local pairs h =
      each_map (Offers program) (Offers program) (λ p. (local, p.1)) (λ p one. one)
      (filter (λ p. bytes_eq name p.0) pairs)
      (each_filter (Offers program) (λ p. bytes_eq name p.0) pairs h)

  members_offered : (found : Option (ℕ × PlainDeclaration)) →
      ((d : ℕ × PlainDeclaration) → found ≡ Some d → d.0 < length (declarations_in m.interface)) →
      Each (Offers program) (members_of place found)
  members_offered None h = tt
  members_offered (Some d) h = targets_offered (given d.0 (members d.1))
      (given_below d.0 (length (declarations_in m.interface)) (members d.1) (h d refl))

  along_offered : (name : Bytes) → Each (Offers program) (along place name (interface_of m))
  along_offered name =
      let all : 0 + length (declarations_in m.interface) ≡ length (declarations_in m.interface) = omega arith in
      members_offered (find (is_type name) (interface_of m))
      (λ d is. found_below (is_type name) 0 (length (declarations_in m.interface))
      (declarations_in m.interface) d all is)

  brought_offered : (space : Space) (item : Renaming Bytes) → Each (Offers program) (brought space place m item)
  brought_offered Values item = renamed_offered item.name.name (given_name item) (exported Values place m)
      (exported_offered Values)
  brought_offered Callables item =
      both_hold (Offers program) (renamed item.name.name (given_name item) (exported Callables place m))
      (along place item.name.name (interface_of m))
      (renamed_offered item.name.name (given_name item) (exported Callables place m) (exported_offered Callables))
      (along_offered item.name.name)
  brought_offered Types item = renamed_offered item.name.name (given_name item) (exported Types place m)
      (exported_offered Types)

-- ---- imports

-- the module that an import names is there
pub source_there : (program : List ModuleParts) (place : ℕ) (found : Option ℕ) (other : ℕ × ModuleParts) →
    earlier program place found ≡ Some other → slice_get program other.0 ≡ Some other.1
source_there program place None other h = absurd (none-some other h)
source_there program place (Some at) other h = by (nat_lt at place) h
  where
    got : (o : Option ModuleParts) → slice_get program at ≡ o → option_map (λ m. (at, m)) o ≡ Some other →
        slice_get program other.0 ≡ Some other.1
    got None is k = absurd (none-some other k)
    got (Some m) is k = subst (λ (p : ℕ × ModuleParts). slice_get program p.0 ≡ Some p.1) (same_Some (at, m) other k) is

    by : (b : Bool) → cond b (option_map (λ m. (at, m)) (slice_get program at)) None ≡ Some other →
        slice_get program other.0 ≡ Some other.1
    by true k = got (slice_get program at) refl k
    by false k = absurd (none-some other k)

from_offered : (program : List ModuleParts) (space : Space) (items : List (Renaming Bytes))
    (found : Option (ℕ × ModuleParts)) →
    ((other : ℕ × ModuleParts) → found ≡ Some other → slice_get program other.0 ≡ Some other.1)
    → Each (Offers program) (brought_from space items found)
from_offered program space items None h = tt
from_offered program space items (Some other) h = each_flat (Offers program) (brought space other.0 other.1)
    (λ item. brought_offered program other.0 other.1 (h other refl) space item) items

imported_offered : (program : List ModuleParts) (space : Space) (place : ℕ) (imports : List (Importing Bytes))
    → Each (Offers program) (imported space program place imports)
imported_offered program space place imports =
    each_flat (Offers program) (brings space program place)
    (λ i. from_offered program space i.items (source program place i)
    (λ other is. source_there program place (place_of program (joined i.from)) other is)) imports

pervasive_offered : (program : List ModuleParts) (space : Space) (found : Option ModuleParts) →
    slice_get program 0 ≡ found → Each (Offers program) (offered space 0 found)
pervasive_offered program space None is = tt
pervasive_offered program space (Some m) is = exported_offered program 0 m is space

-- ---- what stands in a body

-- what a module has itself is of its place
own_place : (space : Space) (place : ℕ) (m : ModuleParts) → Each (λ p. p.1.at.«module» ≡ place) (own space place m)
own_place space place m = by (names_in space (declarations_of m))
  where
    by : (names : List (Bytes × ℕ)) → Each (λ p. p.1.at.«module» ≡ place) (targets place names)
    by [] = tt
    by (one ∷ names) = (refl, by names)

-- what stands at a number of the interface is no declaration of the body
in_interface : (place : ℕ) (m : ModuleParts) (k : ℕ) (d : Standing) →
    k < length (declarations_in m.interface) → slice_get (module_standing place m) k ≡ Some d →
    d.part ≡ Interface
in_interface place m k d less h =
    by (in_either (standing_from place Interface 0 (declarations_in m.interface)) (body_standing place m) k d h)
  where
    by : (slice_get (standing_from place Interface 0 (declarations_in m.interface)) k ≡ Some d)
        ⊎ ((j : ℕ) × (k ≡ length (standing_from place Interface 0 (declarations_in m.interface)) + j)
        × (slice_get (body_standing place m) j ≡ Some d))
        → d.part ≡ Interface
    by (inl e) = (stands_at place 0 Interface (declarations_in m.interface) k d e).part
    by (inr r) = let count = stands_count place 0 Interface (declarations_in m.interface)
        in absurd (omega (arith, less, count, r.1))

offered_part : (program : List ModuleParts) (meaning : Target) (d : Standing) → IsOffered program meaning →
    standing_at program meaning.at ≡ Some d → d.part ≡ Interface
offered_part program meaning d offered stands =
    in_interface meaning.at.«module» offered.owner meaning.at.decl d offered.below
    (ap (standing_in meaning.at.«module» meaning.at.decl) (sym offered.there) ∙ stands)

own_body : (program : List ModuleParts) (place : ℕ) (meaning : Target) (d : Standing) → meaning.at.«module»
    ≡ place → standing_at program meaning.at ≡ Some d → d.place ≡ place
own_body program place meaning d is stands =
    let r = there program meaning.at.«module» meaning.at.decl d (slice_get program meaning.at.«module») refl stands in
    module_place meaning.at.«module» r.0 r.1 d r.3 ∙ is

module _ (program : List ModuleParts) (place : ℕ) (part : Part) (space : Space) (name : Bytes)
    (meaning : Target) (d : Standing) where
  -- what others offer stands in no body
  of_others : (pairs : List (Bytes × Target)) → Each (Offers program) pairs → Contains pairs (name, meaning) →
      standing_at program meaning.at ≡ Some d → d.part ≡ Body → d.place ≡ place
  of_others pairs all c stands body =
      let other : Interface ≡ Body =
      sym (offered_part program meaning d (each_in (Offers program) pairs (name, meaning) c all) stands)
      ∙ body in
      cc

  of_itself : (m : ModuleParts) → Contains (own space place m) (name, meaning) →
      standing_at program meaning.at ≡ Some d → d.place ≡ place
  of_itself m c stands = own_body program place meaning d
      (each_in (λ p. p.1.at.«module» ≡ place) (own space place m) (name, meaning) c (own_place space place m))
      stands

  found_in : (found : Option ModuleParts) → slice_get program place ≡ found →
      tables.find name (seen_in space program place part found) ≡ Some meaning → standing_at program meaning.at
      ≡ Some d → d.part ≡ Body → d.place ≡ place
  found_in None is h stands body = absurd (none-some meaning h)
  found_in (Some m) is h stands body =
      by (Contains-append_cases (itself ++ imports) (pervasive space program) (name, meaning)
      (seen_meant space program place m part name meaning h))
    where
      itself : List (Bytes × Target)
      itself = own space place m

      imports : List (Bytes × Target)
      imports = imported space program place (imports_in (part_of part m))

      first : (Contains itself (name, meaning)) ⊎ (Contains imports (name, meaning)) → d.place ≡ place
      first (inl c) = of_itself m c stands
      first (inr c) = of_others imports (imported_offered program space place (imports_in (part_of part m))) c
          stands body

      by : (Contains (itself ++ imports) (name, meaning))
          ⊎ (Contains (pervasive space program) (name, meaning)) → d.place ≡ place
      by (inl c) = first (Contains-append_cases itself imports (name, meaning) c)
      by (inr c) = of_others (pervasive space program)
          (pervasive_offered program space (slice_get program 0) refl) c stands body

  -- what a name means that stands in a body is of the module itself
  pub hidden_elsewhere : tables.find name (seen_at space program place part) ≡ Some meaning →
      standing_at program meaning.at ≡ Some d → d.part ≡ Body → d.place ≡ place
  hidden_elsewhere h stands body = found_in (slice_get program place) refl h stands body

-- ---- opaque types

-- what defines an opaque type stands in the body of its module
abbrev InBody : ℕ → Standing → Type 0
InBody place d = (d.place ≡ place) × (d.part ≡ Body)

body_there : (place j : ℕ) (d : Standing) (found : Option ModuleParts) → slice_get (body_at place found) j
    ≡ Some d → InBody place d
body_there place j d None h = absurd (none-some d h)
body_there place j d (Some m) h = let at = stands_at place 0 Body (declarations_in m.body) j d h in (at.place, at.part)

pub defines_in_body : (program : List ModuleParts) (at : DeclAt) (s d : Standing) (owner : Bytes) →
    standing_at program at ≡ Some s → opaque_name s.says ≡ Some owner → definition_of program at ≡ Some d →
    InBody s.place d
defines_in_body program at s d owner stands opaque h =
    let found : find (is_whole owner) (body_at s.place (slice_get program s.place)) ≡ Some d =
    ap (defined_by (body_at s.place (slice_get program s.place)) s) (sym opaque)
    ∙ ap (definition_for program) (sym stands) ∙ h in
    let r = found_there (is_whole owner) (body_at s.place (slice_get program s.place)) d found in
    body_there s.place r.0 d (slice_get program s.place) r.1
