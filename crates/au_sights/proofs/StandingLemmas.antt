-- What stands in a program is in a module of it, and its name is one of the module's own.
use Rattle.std.proofs.Common.{◌≡◌, ℕ, zero, suc, ◌+◌, ◌<◌, ◌≤◌, ◌⊎◌, inl, inr, Bool, true, false, cond, List}
use Rattle.std.proofs.Common.{[], ◌∷◌, ◌++◌, length, get_or, map, Option, None, Some, refl, sym, ap, subst}
use Rattle.std.proofs.Common.{◌∙◌, arith}
use Rattle.std.specs.Prelude.{slice_get}
use Rattle.std.specs.Option.{option_map}
use Rattle.std.specs.Str.{bytes_eq}
use Rattle.std.proofs.lemmas.List.{map-append}
use Rattle.std.proofs.lemmas.Option.{none-some, same_Some, slice_get-get_or, slice_get-map, slice_get_within}
use Rattle.std.proofs.lemmas.Slice.Eq.{bytes_eq-Decides}
use Rattle.au_base.proofs.ListLemmas.{in_either}
use Rattle.au_syntax.specs.declared.modules.Part.{Part}
use Rattle.au_syntax.specs.declared.modules.Part.TheVariants.{Interface, Body}
use Rattle.au_syntax.specs.Plain.{Bytes, PlainDeclaration, PlainModule}
use Rattle.au_types.specs.DeclaredNames.{given, names_in, numbered, type_names}
use Rattle.au_types.specs.declared.spaces.Space.TheVariants.{Types}
use Rattle.au_types.specs.Tables.{find, firsts}
use Rattle.au_types.proofs.TableLemmas.{find-firsts, find-front}
use Rattle.au_types.specs.declared.types.DeclAt.{DeclAt}
use Rattle.au_modules.specs.Programs.{Entry, ModuleParts}
use Rattle.au_modules.specs.Seen.{body_tree, interface_tree}
use Rattle.au_modules.proofs.PlaceLemmas.{declared}
use Rattle.au_names.specs.declared.targets.Target.{Target}
use Rattle.au_names.specs.Exporting.{declarations_seen}
use Rattle.au_names.specs.Importing.{imported}
use Rattle.au_names.specs.Meanings.{declared_by, imports_in, part_of, pervasive, seen}
use Rattle.au_names.specs.Owned.{declarations_in, own, target, targets}
use Rattle.au_names.specs.Standing.{Standing, body_standing, definition_of, module_standing, standing_at}
use Rattle.au_names.specs.Standing.{standing_from, whole_name}
use Rattle.au_names.proofs.ExportLemmas.{interface_seen}
use Rattle.au_names.proofs.DefinitionLemmas.{whole_named, module_place}
use Rattle.au_names.proofs.DeclaredByLemmas.{find_declared}
use Rattle.au_typing.specs.Called.{owned, type_number}
use Rattle.au_typing.specs.Insides.{interface_count, known_definition, is_known, known_standing}
use Rattle.au_typing.specs.Written.{seen_in, types_at}
use Rattle.au_typing.proofs.NumberLemmas.{at_number, definition_stands, stands_at}
use Rattle.au_typing.proofs.NumberLemmas.{stands_count, there}
use Rattle.au_sights.specs.Steps.{Stands}

-- ---- where it stands

-- its module, and its index among all that stands there
pub record Placed (program : List ModuleParts) (d : Standing) : Type 0 where
  pub owner : ModuleParts
  pub number : ℕ
  pub here : slice_get program d.place ≡ Some owner
  pub stands : slice_get (module_standing d.place owner) number ≡ Some d

pub placed : (program : List ModuleParts) (d : Standing) → Stands program d → Placed program d
placed program d s =
    let at = s.0 in
    let r = there program at.«module» at.decl d (slice_get program at.«module») refl s.1 in
    let same : d.place ≡ at.«module» = module_place at.«module» r.0 r.1 d r.3 in
    record {
      owner = r.0;
      number = r.1;
      here = ap (slice_get program) same ∙ r.2;
      stands = ap (λ p. slice_get (module_standing p r.0) r.1) same ∙ r.3;
    }

pub within : (program : List ModuleParts) (d : Standing) → Stands program d → d.place < length program
within program d s = let p = placed program d s in slice_get_within program d.place p.owner p.here

nothing : ModuleParts
nothing = record { name = []; interface = None; body = None }

-- the names of types that are seen in a part of a module that is there
pub types_known : (program : List ModuleParts) (place : ℕ) (part : Part) (types : List (Bytes × DeclAt)) →
    place < length program
    → ((m : ModuleParts) → slice_get program place ≡ Some m →
    types ≡ declared_by (seen Types program place m part)) → types ≡ types_at program place part
types_known program place part types less h = by (slice_get program place) refl
  where
    by : (found : Option ModuleParts) → slice_get program place ≡ found →
        types ≡ declared_by (seen_in Types program place part found)
    by None is = absurd (none-some (get_or program place nothing)
        (sym is ∙ slice_get-get_or program place nothing less))
    by (Some m) is = h m is

-- what is seen of a declaration stands there
pub seen_stands : (program : List ModuleParts) (at : DeclAt) (d : Standing) (found : Option Standing) →
    Some d ≡ found → found ≡ standing_at program at → Stands program d
seen_stands program at d found is of = (at, sym (is ∙ of))

-- a known definition stands there
pub known_stands : (program : List ModuleParts) (place : ℕ) (at : DeclAt) (d : Standing) →
    Some d ≡ known_definition program place at → Stands program d
known_stands program place at d h = by (standing_at program at) (sym h)
  where
    on : (s : Standing) (b : Bool) → cond b (definition_of program at) None ≡ Some d → Stands program d
    on s true k = (at_number program d, definition_stands program at d k)
    on s false k = absurd (none-some d k)

    by : (found : Option Standing) → known_standing program place at found ≡ Some d → Stands program d
    by None k = absurd (none-some d k)
    by (Some s) k = on s (is_known place s) k

-- ---- numbers

-- a part of a module has as few declarations as its file
few_in : (part : Part) (m : ModuleParts) (most : ℕ) → declared (interface_tree (Some m)) ≤ most →
    declared (body_tree (Some m)) ≤ most → length (declarations_in (part_of part m)) ≤ most
few_in Interface m most a b = by m.interface a
  where
    by : (o : Option Entry) → declared (option_map (λ (e : Entry). e.tree) o) ≤ most → length (declarations_in o) ≤ most
    by None h = h
    by (Some e) h = h
few_in Body m most a b = by m.body b
  where
    by : (o : Option Entry) → declared (option_map (λ (e : Entry). e.tree) o) ≤ most → length (declarations_in o) ≤ most
    by None h = h
    by (Some e) h = h

from_below : (place : ℕ) (part : Part) (ds : List PlainDeclaration) (k : ℕ) (d : Standing) →
    slice_get (standing_from place part 0 ds) k ≡ Some d → d.index < length ds
from_below place part ds k d h =
    let at = stands_at place 0 part ds k d h in
    omega (arith, at.index, stands_count place 0 part ds, slice_get_within (standing_from place part 0 ds) k d h)

-- the index of a declaration is one of its part
index_below : (place : ℕ) (m : ModuleParts) (k : ℕ) (d : Standing) → slice_get (module_standing place m) k
    ≡ Some d → d.index < length (declarations_in (part_of d.part m))
index_below place m k d h = by
    (in_either (standing_from place Interface 0 (declarations_in m.interface)) (body_standing place m) k d h)
  where
    by : (slice_get (standing_from place Interface 0 (declarations_in m.interface)) k ≡ Some d)
        ⊎ ((j : ℕ) × (k ≡ length (standing_from place Interface 0 (declarations_in m.interface)) + j)
        × (slice_get (body_standing place m) j ≡ Some d))
        → d.index < length (declarations_in (part_of d.part m))
    by (inl e) =
        subst (λ part. d.index < length (declarations_in (part_of part m)))
        (sym (stands_at place 0 Interface (declarations_in m.interface) k d e).part)
        (from_below place Interface (declarations_in m.interface) k d e)
    by (inr r) =
        subst (λ part. d.index < length (declarations_in (part_of part m)))
        (sym (stands_at place 0 Body (declarations_in m.body) r.0 d r.2).part)
        (from_below place Body (declarations_in m.body) r.0 d r.2)

-- so the index is small where the files of the module are
pub index_few : (program : List ModuleParts) (d : Standing) (most : ℕ) → Stands program d
    → (declared (interface_tree (slice_get program d.place)) ≤ most)
    × (declared (body_tree (slice_get program d.place)) ≤ most) → d.index < most
index_few program d most stands few =
    let p = placed program d stands in
    let first : declared (interface_tree (Some p.owner)) ≤ most =
    subst (λ o. declared (interface_tree o) ≤ most) p.here few.0 in
    let second : declared (body_tree (Some p.owner)) ≤ most = subst (λ o. declared (body_tree o) ≤ most) p.here few.1 in
    omega (arith, index_below d.place p.owner p.number d p.stands, few_in d.part p.owner most first second)

pub count_few : (found : Option ModuleParts) (most : ℕ) → declared (interface_tree found) ≤ most →
    interface_count found ≤ most
count_few None most h = h
count_few (Some m) most h = by m.interface h
  where
    by : (o : Option Entry) → declared (option_map (λ (e : Entry). e.tree) o) ≤ most → length (declarations_in o) ≤ most
    by None k = k
    by (Some e) k = k

-- the count of an interface, by what is seen of it
pub count_seen : (found : Option ModuleParts) (seen : Option PlainModule) → seen ≡ interface_tree found →
    length (declarations_seen seen) ≡ interface_count found
count_seen None seen is = ap (λ o. length (declarations_seen o)) is
count_seen (Some m) seen is = ap (λ o. length (declarations_seen o)) is ∙ sym (ap length (interface_seen m))

-- ---- names

module _ {V : Type 0} where
  abbrev Found : Bytes → List (Bytes × V) → Type 0
  Found name xs = (v : V) × (find name xs ≡ Some v)

  found_later : (name : Bytes) (xs ys : List (Bytes × V)) → Found name ys → Found name (xs ++ ys)
  found_later name [] ys f = f
  found_later name (x ∷ xs) ys f = by (bytes_eq name x.0) (found_later name xs ys f)
    where
      by : (b : Bool) → Found name (xs ++ ys) → (v : V) × (cond b (Some x.1) (find name (xs ++ ys)) ≡ Some v)
      by true on = (x.1, refl)
      by false on = on

-- a name that a declaration brings in is among those of all declarations
named_here : (place first : ℕ) (name : Bytes) (names : List Bytes) (rest : List (Bytes × ℕ)) →
    names ≡ name ∷ [] → Found name (targets place (given first names ++ rest))
named_here place first name names rest is =
    let one = target place name first in (
      one,
      ap (λ ns. find name (targets place (given first ns ++ rest))) is
          ∙ ap (λ b. cond b (Some one) (find name (targets place rest))) ((bytes_eq-Decides name name).1 refl),
    )

in_names : (place first : ℕ) (name : Bytes) (ds : List PlainDeclaration) (k : ℕ) (d : PlainDeclaration) →
    slice_get ds k ≡ Some d → type_names d ≡ name ∷ []
    → Found name (targets place (names_in Types (numbered first ds)))
unfolding names_in numbered
in_names place first name [] k d h is = absurd (none-some d h)
in_names place first name (x ∷ ds) zero d h is =
    named_here place first name (type_names x) (names_in Types (numbered (first + 1) ds))
    (ap type_names (same_Some x d h) ∙ is)
in_names place first name (x ∷ ds) (suc k) d h is =
    let later = found_later name (targets place (given first (type_names x)))
    (targets place (names_in Types (numbered (first + 1) ds))) (in_names place (first + 1) name ds k d h is)
    in (
      later.0,
      ap (find name) (map-append (λ (p : Bytes × ℕ). (p.0, target place p.0 p.1))
          (given first (type_names x)) (names_in Types (numbered (first + 1) ds))) ∙ later.1,
    )

says_of : (place first : ℕ) (part : Part) (ds : List PlainDeclaration) →
    map (λ (s : Standing). s.says) (standing_from place part first ds) ≡ ds
unfolding standing_from
says_of place first part [] = refl
says_of place first part (d ∷ ds) = ap (λ rest. d ∷ rest) (says_of place (first + 1) part ds)

says_at : (place : ℕ) (m : ModuleParts) (k : ℕ) (d : Standing) → slice_get (module_standing place m) k
    ≡ Some d → slice_get (declarations_in m.interface ++ declarations_in m.body) k ≡ Some d.says
says_at place m k d h =
    let says : Standing → PlainDeclaration = λ s. s.says in
    let interface = standing_from place Interface 0 (declarations_in m.interface) in
    sym
    (ap (λ xs. slice_get xs k)
    (map-append says interface (body_standing place m)
    ∙ ap (λ xs. xs ++ map says (body_standing place m)) (says_of place 0 Interface (declarations_in m.interface))
    ∙ ap (λ xs. declarations_in m.interface ++ xs) (says_of place 0 Body (declarations_in m.body))))
    ∙ slice_get-map says (module_standing place m) k
    ∙ ap (option_map says) h

-- what is seen under the name of a type of the module itself has the number of this type
pub number_seen : (program : List ModuleParts) (d : Standing) (name : Bytes) (part : Part) →
    Stands program d → whole_name d.says ≡ Some name
    → find name (types_at program d.place part) ≡ type_number program d.place name
number_seen program d name part stands whole =
    let p = placed program d stands in
    let m = p.owner in
    let own_names = own Types d.place m in
    let imports = imported Types program d.place (imports_in (part_of part m)) in
    let found = in_names d.place 0 name (declarations_in m.interface ++ declarations_in m.body) p.number
    d.says (says_at d.place m p.number d p.stands) (whole_named d.says name whole) in
    let behind : find name (own_names ++ imports ++ pervasive Types program) ≡ Some found.0 =
    find-front name (own_names ++ imports) (pervasive Types program) found.0
    (find-front name own_names imports found.0 found.1) in
    ap (λ o. find name (declared_by (seen_in Types program d.place part o))) p.here
    ∙ find_declared name (firsts (own_names ++ imports ++ pervasive Types program))
    ∙ ap (option_map (λ (t : Target). t.at))
    (find-firsts name (own_names ++ imports ++ pervasive Types program) ∙ behind ∙ sym found.1)
    ∙ sym (ap (λ o. option_map (λ (t : Target). t.at) (find name (owned Types d.place o))) p.here)
