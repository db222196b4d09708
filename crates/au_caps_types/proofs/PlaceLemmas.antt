-- What defines a declared type stands in a module of the program.
use Rattle.std.proofs.Common.{◌≡◌, ℕ, ◌+◌, ◌<◌, Bool, true, false, cond, List, [], ◌∷◌, length, get_or, Option, None, Some}
use Rattle.std.proofs.Common.{refl, sym, ap, subst, ◌∙◌}
use Rattle.std.specs.Prelude.{find, slice_get}
use Rattle.std.proofs.lemmas.Option.{none-some, same_Some, slice_get-get_or, slice_get_within}
use Rattle.au_syntax.specs.declared.modules.Part.{Part}
use Rattle.au_syntax.specs.declared.modules.Part.TheVariants.{Body}
use Rattle.au_syntax.specs.Plain.{Bytes, PlainDeclaration}
use Rattle.au_types.specs.declared.spaces.Space.TheVariants.{Types}
use Rattle.au_types.specs.declared.types.DeclAt.{DeclAt}
use Rattle.au_modules.specs.Programs.{ModuleParts}
use Rattle.au_names.specs.Meanings.{declared_by, seen}
use Rattle.au_names.specs.Owned.{declarations_in}
use Rattle.au_names.specs.Standing.{Standing, body_at, defined_by, definition_for, definition_of, is_whole}
use Rattle.au_names.specs.Standing.{opaque_name, standing_at, standing_from, standing_in}
use Rattle.au_names.proofs.DefinitionLemmas.{module_place}
use Rattle.au_formed.specs.Text.{visible_in}
use Rattle.au_caps_types.specs.Naming.{types_at}

-- what is found among what stands at a place is of that place
found_place : (place first : ℕ) (part : Part) (q : Standing → Bool) (ds : List PlainDeclaration) (s : Standing)
    → find q (standing_from place part first ds) ≡ Some s → s.place ≡ place
unfolding standing_from
found_place place first part q [] s h = absurd (none-some s h)
found_place place first part q (x ∷ ds) s h =
    by (q (record { place = place; part = part; index = first; says = x })) h
    (λ k. found_place place (first + 1) part q ds s k)
  where
    by : (b : Bool)
        → cond b (Some (record { place = place; part = part; index = first; says = x }))
        (find q (standing_from place part (first + 1) ds)) ≡ Some s
        → (find q (standing_from place part (first + 1) ds) ≡ Some s → s.place ≡ place) → s.place ≡ place
    by true k on = ap (λ (t : Standing). t.place) (sym (same_Some _ s k))
    by false k on = on k

in_body_place : (place : ℕ) (found : Option ModuleParts) (q : Standing → Bool) (s : Standing)
    → find q (body_at place found) ≡ Some s → s.place ≡ place
in_body_place place None q s h = absurd (none-some s h)
in_body_place place (Some m) q s h = found_place place 0 Body q (declarations_in m.body) s h

module _ (program : List ModuleParts) where
  abbrev Within : ℕ → Type 0
  Within place = place < length program

  -- what stands in a program stands in a module of it
  standing_within : (at : DeclAt) (d : Standing) → standing_at program at ≡ Some d → Within d.place
  standing_within at d h = by (slice_get program at.«module») refl h
    where
      by : (found : Option ModuleParts) → slice_get program at.«module» ≡ found
          → standing_in at.«module» at.decl found ≡ Some d → Within d.place
      by None is k = absurd (none-some d k)
      by (Some m) is k =
          subst Within (sym (module_place at.«module» m at.decl d k)) (slice_get_within program at.«module» m is)

  -- so does what defines a declared type
  pub definition_within : (at : DeclAt) (d : Standing) → definition_of program at ≡ Some d → Within d.place
  definition_within at d h = by (standing_at program at) refl h
    where
      on : (s : Standing) → Within s.place → (o : Option Bytes)
          → defined_by (body_at s.place (slice_get program s.place)) s o ≡ Some d → Within d.place
      on s less None k = subst Within (ap (λ (t : Standing). t.place) (same_Some s d k)) less
      on s less (Some name) k =
          subst Within (sym (in_body_place s.place (slice_get program s.place) (is_whole name) d k)) less

      by : (found : Option Standing) → standing_at program at ≡ found → definition_for program found ≡ Some d
          → Within d.place
      by None is k = absurd (none-some d k)
      by (Some s) is k = on s (standing_within at s is) (opaque_name s.says) k

  nothing : ModuleParts
  nothing = record { name = []; interface = None; body = None }

  -- the names of types that are seen in a part of a module that is there
  pub types_known : (place : ℕ) (part : Part) (types : List (Bytes × DeclAt)) → Within place
      → ((m : ModuleParts) → slice_get program place ≡ Some m → types ≡ declared_by (seen Types program place m part))
      → types ≡ types_at program place part
  types_known place part types less h = by (slice_get program place) refl
    where
      by : (found : Option ModuleParts) → slice_get program place ≡ found → types ≡ visible_in program place part found
      by None is = absurd (none-some (get_or program place nothing)
          (sym is ∙ slice_get-get_or program place nothing less))
      by (Some m) is = h m is
