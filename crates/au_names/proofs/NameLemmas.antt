-- What names mean in the modules of a program, one place after another.
use Rattle.std.proofs.Common.{◌≡◌, ℕ, ◌+◌, ◌<◌, ◌≤◌, ◌⊎◌, inl, inr, List, [], ◌∷◌, ◌++◌, length}
use Rattle.std.proofs.Common.{get_or, None, Some, refl, sym, ap, ◌∙◌, subst, arith}
use Rattle.std.specs.Prelude.{slice_get}
use Rattle.std.specs.Option.{option_map}
use Rattle.std.proofs.lemmas.Bool.{cases_lt}
use Rattle.std.proofs.lemmas.Option.{slice_get_cases, slice_get_past, slice_get_within, get_or_from_slice_get}
use Rattle.std.proofs.lemmas.List.{length_push}
use Rattle.au_base.proofs.ListLemmas.{get_left, got_last}
use Rattle.au_syntax.specs.declared.modules.Part.{Part}
use Rattle.au_syntax.specs.declared.modules.Part.TheVariants.{Interface, Body}
use Rattle.au_types.specs.declared.spaces.Space.TheVariants.{Values, Callables, Types}
use Rattle.au_modules.specs.Programs.{ModuleParts}
use Rattle.au_names.specs.Meanings.{declared_by, seen}
use Rattle.au_names.specs.declared.part_names.PartNames.{PartNames}
use Rattle.au_names.specs.declared.module_names.ModuleNames.{ModuleNames}
use Rattle.au_names.specs.Known.{seen_by, names_of, in_part, AreNames}

-- ---- one module

-- the names of a part, by spaces
pub part_is : (program : List ModuleParts) (place : ℕ) (part : Part) (m : ModuleParts) (names : PartNames)
    → names.values ≡ declared_by (seen Values program place m part)
    → names.callables ≡ seen Callables program place m part
    → names.types ≡ declared_by (seen Types program place m part)
    → names ≡ seen_by program place part m
part_is program place part m names values callables types =
    λ i. record { values = values i; callables = callables i; types = types i }

-- the names of both parts
pub both_are : (program : List ModuleParts) (place : ℕ) (interface body : PartNames) → place < length program
    → ((m : ModuleParts) → slice_get program place ≡ Some m → interface ≡ seen_by program place Interface m)
    → ((m : ModuleParts) → slice_get program place ≡ Some m → body ≡ seen_by program place Body m)
    → option_map (names_of program place) (slice_get program place)
    ≡ Some (record { interface = interface; body = body })
both_are program place interface body within first second = by (slice_get_cases program place).1
  where
    by :
        ((m : ModuleParts) × (place < length program) × (slice_get program place ≡ Some m) ×
        (get_or program place m ≡ m))
        ⊎ ((length program ≤ place) × (slice_get program place ≡ None))
        → option_map (names_of program place) (slice_get program place)
        ≡ Some (record { interface = interface; body = body })
    by (inl found) =
        let left : seen_by program place Interface found.0 ≡ interface = sym (first found.0 found.2) in
        let right : seen_by program place Body found.0 ≡ body = sym (second found.0 found.2) in
        ap (option_map (names_of program place)) found.2
        ∙ (λ i. Some (record { interface = left i; body = right i }))
    by (inr past) = absurd (omega (arith, past.0, within))

-- ---- modules in order

-- the names of the modules below a place
pub record AreBelow (program : List ModuleParts) (place : ℕ) (all : List ModuleNames) : Type 0 where
  pub count : length all ≡ place
  pub each : (k : ℕ) → k < place → slice_get all k ≡ option_map (names_of program k) (slice_get program k)

-- those of one more
pub below_next : (program : List ModuleParts) (place : ℕ) (all after : List ModuleNames) (one : ModuleNames)
    → AreBelow program place all
    → option_map (names_of program place) (slice_get program place) ≡ Some one → after ≡ all ++ one ∷ []
    → AreBelow program (place + 1) after
below_next program place all after one old here new = record {
  count = ap length new ∙ length_push all one ∙ ap (λ n. n + 1) old.count;
  each = λ k h. by k h (cases_lt k place);
}
  where
    by : (k : ℕ) → k < place + 1 → (k < place) ⊎ (place ≤ k)
        → slice_get after k ≡ option_map (names_of program k) (slice_get program k)
    by k h (inl less) =
        let within : k < length all = omega (arith, less, old.count) in
        ap (λ r. slice_get r k) new ∙ get_left all (one ∷ []) k within ∙ old.each k less
    by k h (inr more) =
        let at_end : k ≡ length all = omega (arith, h, more, old.count) in
        let same : place ≡ k = omega (arith, h, more) in
        let P : ℕ → Type 0 = λ n. option_map (names_of program n) (slice_get program n) ≡ Some one in
        ap (λ r. slice_get r k) new ∙ got_last all one k at_end ∙ sym (subst P same here)

-- those of all
pub below_all : (program : List ModuleParts) (place : ℕ) (all : List ModuleNames) → length program ≤ place
    → AreBelow program place all → AreNames program all
below_all program place all past below = λ k. by k (cases_lt k place)
  where
    by : (k : ℕ) → (k < place) ⊎ (place ≤ k)
        → slice_get all k ≡ option_map (names_of program k) (slice_get program k)
    by k (inl less) = below.each k less
    by k (inr more) =
        let end : length all ≤ k = omega (arith, more, below.count) in
        let over : length program ≤ k = omega (arith, more, past) in
        slice_get_past all k end ∙ sym (ap (option_map (names_of program k)) (slice_get_past program k over))

-- ---- what is found

names_found : (program : List ModuleParts) (all : List ModuleNames) (place : ℕ) (m : ModuleParts)
    → AreNames program all
    → slice_get program place ≡ Some m → slice_get all place ≡ Some (names_of program place m)
names_found program all place m are here = are place ∙ ap (option_map (names_of program place)) here

-- where there is a module there are its names
pub names_within : (program : List ModuleParts) (all : List ModuleNames) (place : ℕ) → AreNames program all
    → place < length program → place < length all
names_within program all place are within = by (slice_get_cases program place).1
  where
    by :
        ((m : ModuleParts) × (place < length program) × (slice_get program place ≡ Some m) ×
        (get_or program place m ≡ m))
        ⊎ ((length program ≤ place) × (slice_get program place ≡ None))
        → place < length all
    by (inl found) =
        slice_get_within all place (names_of program place found.0)
        (names_found program all place found.0 are found.2)
    by (inr past) = absurd (omega (arith, past.0, within))

in_part_of : (program : List ModuleParts) (place : ℕ) (part : Part) (m : ModuleParts)
    → in_part part (names_of program place m) ≡ seen_by program place part m
in_part_of program place Interface m = refl
in_part_of program place Body m = refl

-- the names of a part of the module at a place
pub part_known : (program : List ModuleParts) (all : List ModuleNames) (place : ℕ) (part : Part)
    (m : ModuleParts) (one : ModuleNames)
    → AreNames program all
    → slice_get program place ≡ Some m → one ≡ get_or all place one
    → in_part part one ≡ seen_by program place part m
part_known program all place part m one are here is =
    ap (in_part part)
    (is
    ∙ get_or_from_slice_get all place (names_of program place m) one
    (names_found program all place m are here))
    ∙ in_part_of program place part m
