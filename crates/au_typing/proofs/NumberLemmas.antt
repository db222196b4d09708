-- The number of a declaration leads back to it.
use Rattle.std.proofs.Common.{◌≡◌, ℕ, zero, suc, ◌+◌, ◌⊎◌, inl, inr, Bool, true, false, cond, List, [], ◌∷◌}
use Rattle.std.proofs.Common.{length, find, Option, None, Some, refl, sym, ap, ◌∙◌, arith}
use Rattle.std.specs.Prelude.{slice_get}
use Rattle.std.proofs.lemmas.Option.{none-some, same_Some}
use Rattle.au_base.proofs.ListLemmas.{get_right, in_either}
use Rattle.au_syntax.specs.declared.modules.Part.{Part}
use Rattle.au_syntax.specs.declared.modules.Part.TheVariants.{Interface, Body}
use Rattle.au_syntax.specs.Plain.{Bytes, PlainDeclaration}
use Rattle.au_types.specs.declared.types.DeclAt.{DeclAt}
use Rattle.au_modules.specs.Programs.{ModuleParts}
use Rattle.au_names.specs.Owned.{declarations_in}
use Rattle.au_names.specs.Standing.{Standing, body_at, body_standing, defined_by, definition_for}
use Rattle.au_names.specs.Standing.{definition_of, is_whole, module_standing, opaque_name, standing_at}
use Rattle.au_names.specs.Standing.{standing_from, standing_in}
use Rattle.au_names.proofs.DefinitionLemmas.{module_place}
use Rattle.au_typing.specs.Insides.{number_in, number_of}

-- ---- lists

-- what is found in a list stands in it
pub found_there : {X : Type 0} (p : X → Bool) (xs : List X) (x : X) → find p xs ≡ Some x → (k : ℕ)
    × (slice_get xs k ≡ Some x)
found_there p [] x h = absurd (none-some x h)
found_there p (y ∷ xs) x h = by (p y) h (λ k. found_there p xs x k)
  where
    by : (b : Bool) → cond b (Some y) (find p xs) ≡ Some x →
        (find p xs ≡ Some x → (k : ℕ) × (slice_get xs k ≡ Some x)) → (k : ℕ) × (slice_get (y ∷ xs) k ≡ Some x)
    by true k on = (0, k)
    by false k on = let r = on k in (suc r.0, r.1)

-- ---- where declarations stand

-- where the declaration of an index stands
pub record StandsAt (in_module : ℕ) (in_part : Part) (number : ℕ) (s : Standing) : Type 0 where
  pub place : s.place ≡ in_module
  pub part : s.part ≡ in_part
  pub index : s.index ≡ number

pub stands_at : (place first : ℕ) (part : Part) (ds : List PlainDeclaration) (k : ℕ) (s : Standing) →
    slice_get (standing_from place part first ds) k ≡ Some s → StandsAt place part (first + k) s
unfolding standing_from
stands_at place first part [] k s h = absurd (none-some s h)
stands_at place first part (d ∷ ds) zero s h =
    let same = sym (same_Some (record { place = place; part = part; index = first; says = d }) s h) in
    let start : first ≡ first + 0 = omega arith in
    record {
      place = ap (λ (t : Standing). t.place) same;
      part = ap (λ (t : Standing). t.part) same;
      index = ap (λ (t : Standing). t.index) same ∙ start;
    }
stands_at place first part (d ∷ ds) (suc k) s h =
    let rest = stands_at place (first + 1) part ds k s h in
    let next : first + 1 + k ≡ first + suc k = omega arith in
    record { place = rest.place; part = rest.part; index = rest.index ∙ next }

pub stands_count : (place first : ℕ) (part : Part) (ds : List PlainDeclaration) →
    length (standing_from place part first ds) ≡ length ds
unfolding standing_from
stands_count place first part [] = refl
stands_count place first part (d ∷ ds) = ap suc (stands_count place (first + 1) part ds)

-- the number of what stands in a module is its index among all that stands there
numbered_as : (place : ℕ) (m : ModuleParts) (k : ℕ) (s : Standing) → slice_get (module_standing place m) k
    ≡ Some s → number_in (Some m) s.part s.index ≡ k
numbered_as place m k s h = by
    (in_either (standing_from place Interface 0 (declarations_in m.interface)) (body_standing place m) k s h)
  where
    by : (slice_get (standing_from place Interface 0 (declarations_in m.interface)) k ≡ Some s)
        ⊎ ((j : ℕ) × (k ≡ length (standing_from place Interface 0 (declarations_in m.interface)) + j)
        × (slice_get (body_standing place m) j ≡ Some s))
        → number_in (Some m) s.part s.index ≡ k
    by (inl e) =
        let at = stands_at place 0 Interface (declarations_in m.interface) k s e in
        let index : s.index ≡ k = omega (arith, at.index) in
        ap (λ part. number_in (Some m) part s.index) at.part ∙ index
    by (inr r) =
        let at = stands_at place 0 Body (declarations_in m.body) r.0 s r.2 in
        let count = stands_count place 0 Interface (declarations_in m.interface) in
        let index : length (declarations_in m.interface) + s.index ≡ k = omega (arith, at.index, count, r.1) in
        ap (λ part. number_in (Some m) part s.index) at.part ∙ index

-- ---- definitions

-- a declaration, by the number that it has in its module
abbrev pub at_number : List ModuleParts → Standing → DeclAt
at_number program s = record { «module» = s.place; decl = number_of program s }

-- what stands in a module is found at its number
stands_itself : (program : List ModuleParts) (place : ℕ) (m : ModuleParts) (k : ℕ) (s : Standing) →
    slice_get program place ≡ Some m → slice_get (module_standing place m) k ≡ Some s
    → standing_at program (at_number program s) ≡ Some s
stands_itself program place m k s here h =
    ap (λ p. standing_in p (number_in (slice_get program p) s.part s.index) (slice_get program p))
    (module_place place m k s h)
    ∙ ap (λ o. standing_in place (number_in o s.part s.index) o) here
    ∙ ap (slice_get (module_standing place m)) (numbered_as place m k s h)
    ∙ h

-- what is found at a place and a number
abbrev pub IsThere : List ModuleParts → ℕ → Standing → Type 0
IsThere program place s = (m : ModuleParts) × (k : ℕ) × (slice_get program place ≡ Some m)
    × (slice_get (module_standing place m) k ≡ Some s)

pub there : (program : List ModuleParts) (place number : ℕ) (s : Standing) (found : Option ModuleParts) →
    slice_get program place ≡ found → standing_in place number found ≡ Some s → IsThere program place s
there program place number s None is h = absurd (none-some s h)
there program place number s (Some m) is h = (m, number, is, h)

-- the same of the body of a module
in_body : (program : List ModuleParts) (place j : ℕ) (s : Standing) (found : Option ModuleParts) →
    slice_get program place ≡ found → slice_get (body_at place found) j ≡ Some s → IsThere program place s
in_body program place j s None is h = absurd (none-some s h)
in_body program place j s (Some m) is h =
    let interface = standing_from place Interface 0 (declarations_in m.interface) in
    (m, length interface + j, is, get_right interface (body_standing place m) j ∙ h)

itself : (program : List ModuleParts) (place : ℕ) (s : Standing) → IsThere program place s →
    standing_at program (at_number program s) ≡ Some s
itself program place s r = stands_itself program place r.0 r.1 s r.2 r.3

defined_itself : (program : List ModuleParts) (place : ℕ) (s d : Standing) (opaque : Option Bytes) →
    IsThere program place s → defined_by (body_at s.place (slice_get program s.place)) s opaque ≡ Some d
    → standing_at program (at_number program d) ≡ Some d
defined_itself program place s d None r h =
    let same : s ≡ d = same_Some s d h in
    ap (λ t. standing_at program (at_number program t)) (sym same) ∙ itself program place s r ∙ h
defined_itself program place s d (Some name) r h =
    let found = found_there (is_whole name) (body_at s.place (slice_get program s.place)) d h in
    itself program s.place d (in_body program s.place found.0 d (slice_get program s.place) refl found.1)

for_itself : (program : List ModuleParts) (at : DeclAt) (d : Standing) (found : Option Standing) →
    standing_at program at ≡ found → definition_for program found ≡ Some d →
    standing_at program (at_number program d) ≡ Some d
for_itself program at d None is h = absurd (none-some d h)
for_itself program at d (Some s) is h =
    defined_itself program at.«module» s d (opaque_name s.says)
    (there program at.«module» at.decl s (slice_get program at.«module») refl is) h

-- the definition of a type is found at its number
pub definition_stands : (program : List ModuleParts) (at : DeclAt) (d : Standing) → definition_of program at
    ≡ Some d → standing_at program (at_number program d) ≡ Some d
definition_stands program at d h = for_itself program at d (standing_at program at) refl h
