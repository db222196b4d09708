-- What makes up opaque types is known in their own modules.
use Rattle.std.proofs.Common.{◌≡◌, ◌⊎◌, inl, inr, ℕ, zero, suc, ◌+◌, ◌<◌, Bool, true, false, List, [], ◌∷◌, ◌++◌, length}
use Rattle.std.proofs.Common.{Option, Some, None, sym, ap, subst, ◌∙◌, cond, slice_get, arith}
use Rattle.std.specs.Prelude.{find}
use Rattle.std.proofs.lemmas.Option.{none-some, same_Some}
use Rattle.au_syntax.specs.declared.modules.Part.{Part}
use Rattle.au_syntax.specs.declared.modules.Part.TheVariants.{Interface, Body}
use Rattle.au_syntax.specs.Plain.{Bytes, PlainDeclaration}
use Rattle.au_types.specs.Tables as tables
use Rattle.au_types.specs.declared.spaces.Space.TheVariants.{Callables}
use Rattle.au_types.specs.declared.types.DeclAt.{DeclAt}
use Rattle.au_modules.specs.Programs.{ModuleParts}
use Rattle.au_names.specs.Importing.{imported}
use Rattle.au_names.specs.Meanings.{imports_in, meanings, part_of, pervasive, seen}
use Rattle.au_names.specs.Owned.{declarations_in, own}
use Rattle.au_names.specs.Standing.{Standing, body_at, body_standing, defined_by, definition_for}
use Rattle.au_names.specs.Standing.{is_whole, module_standing, standing_at, standing_from, standing_in}
use Rattle.au_names.specs.declared.targets.Target.{Target}
use Rattle.au_names.proofs.AmongLemmas.{Among, among, among-append}
use Rattle.au_names.proofs.DefinitionLemmas.{module_place}
use Rattle.au_names.proofs.SeenLemmas.{seen_meant}
use Rattle.au_owners.specs.Owners.{DefinesOpaque}
use Rattle.au_owners.proofs.NameLemmas.{IsOffered, from_imports, from_pervasive, own_place}

abbrev standing_of : ℕ → Part → ℕ → PlainDeclaration → Standing
standing_of place part index d = record { place = place; part = part; index = index; says = d }

-- ---- definitions of opaque types stand in bodies

found_body : (p : Standing → Bool) (place first : ℕ) (ds : List PlainDeclaration) (d : Standing)
    → find p (standing_from place Body first ds) ≡ Some d → d.part ≡ Body
unfolding standing_from
found_body p place first [] d h = absurd (none-some d h)
found_body p place first (x ∷ ds) d h =
    by (p (standing_of place Body first x)) h (found_body p place (first + 1) ds d)
  where
    by : (b : Bool) → cond b (Some (standing_of place Body first x)) (find p (standing_from place Body (first + 1) ds))
        ≡ Some d
        → (find p (standing_from place Body (first + 1) ds) ≡ Some d → d.part ≡ Body) → d.part ≡ Body
    by true is rest = ap (λ (s : Standing). s.part) (sym (same_Some (standing_of place Body first x) d is))
    by false is rest = rest is

in_body : (p : Standing → Bool) (place : ℕ) (o : Option ModuleParts) (d : Standing) → find p (body_at place o) ≡ Some d
    → d.part ≡ Body
in_body p place None d h = absurd (none-some d h)
in_body p place (Some m) d h = found_body p place 0 (declarations_in m.body) d h

defines_in_body : (program : List ModuleParts) (d : Standing) → DefinesOpaque program d → d.part ≡ Body
defines_in_body program d one =
    let found : definition_for program (Some one.opaque) ≡ Some d =
    ap (definition_for program) (sym one.stands) ∙ one.defines in
    let body = body_at one.opaque.place (slice_get program one.opaque.place) in
    let named : defined_by body one.opaque (Some one.name) ≡ Some d =
    ap (defined_by body one.opaque) (sym one.is) ∙ found in
    in_body (is_whole one.name) one.opaque.place (slice_get program one.opaque.place) d named

-- ---- what interfaces offer stands in interfaces

interface_part : (place first : ℕ) (m : ModuleParts) (ds : List PlainDeclaration) (k : ℕ) (d : Standing)
    → slice_get (standing_from place Interface first ds ++ body_standing place m) k ≡ Some d → k < length ds
    → d.part ≡ Interface
unfolding standing_from
interface_part place first m [] k d h less = absurd (omega arith)
interface_part place first m (x ∷ ds) zero d h less =
    ap (λ (s : Standing). s.part) (sym (same_Some (standing_of place Interface first x) d h))
interface_part place first m (x ∷ ds) (suc k) d h less = interface_part place (first + 1) m ds k d h (omega arith)

offered_part : (program : List ModuleParts) (t : Target) (d : Standing) → IsOffered program t
    → standing_at program t.at ≡ Some d → d.part ≡ Interface
offered_part program t d offer stands =
    let there : standing_in offer.place offer.number (slice_get program offer.place) ≡ Some d =
    subst (λ (a : DeclAt). standing_at program a ≡ Some d) offer.at stands in
    let here : slice_get (module_standing offer.place offer.other) offer.number ≡ Some d =
    ap (standing_in offer.place offer.number) (sym offer.here) ∙ there in
    interface_part offer.place 0 offer.other (declarations_in offer.other.interface) offer.number d here offer.within

-- ---- what a module declares is its own

stands_in : (place number : ℕ) (o : Option ModuleParts) (d : Standing) → standing_in place number o ≡ Some d
    → d.place ≡ place
stands_in place number None d h = absurd (none-some d h)
stands_in place number (Some m) d h = module_place place m number d h

pub parts_are_own : (program : List ModuleParts) (place : ℕ) (m : ModuleParts) (part : Part) (name : Bytes)
    (t : Target) (d : Standing) → slice_get program place ≡ Some m
    → tables.find name (seen Callables program place m part) ≡ Some t → standing_at program t.at ≡ Some d
    → DefinesOpaque program d → place ≡ d.place
parts_are_own program place m part name t d here found stands defines =
    first (among-append (own Callables place m ++ imported Callables program place (imports_in (part_of part m)))
    (pervasive Callables program) (name, t)
    (among (meanings Callables program place m part) (name, t)
    (seen_meant Callables program place m part name t found)))
  where
    not_offered : IsOffered program t → place ≡ d.place
    not_offered offer =
        let one : d.part ≡ Interface = offered_part program t d offer stands in
        let two : d.part ≡ Body = defines_in_body program d defines in
        let wrong : Interface ≡ Body = sym one ∙ two in
        absurd cc

    second : Among (name, t) (own Callables place m)
        ⊎ Among (name, t) (imported Callables program place (imports_in (part_of part m))) → place ≡ d.place
    second (inl k) =
        own_place Callables place m (name, t) k
        ∙ sym (stands_in t.at.«module» t.at.decl (slice_get program t.at.«module») d stands)
    second (inr k) = not_offered (from_imports program place (imports_in (part_of part m)) (name, t) k)

    first : Among (name, t) (own Callables place m ++ imported Callables program place (imports_in (part_of part m)))
        ⊎ Among (name, t) (pervasive Callables program) → place ≡ d.place
    first (inl k) =
        second (among-append (own Callables place m)
        (imported Callables program place (imports_in (part_of part m))) (name, t) k)
    first (inr k) = not_offered (from_pervasive program (name, t) k)
