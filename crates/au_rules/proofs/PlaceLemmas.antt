-- The doubles of the modules of a program, one place after another.
use Rattle.std.proofs.Common.{◌≡◌, ℕ, ◌+◌, ◌<◌, ◌≤◌, ◌⊎◌, inl, inr, List, [], ◌∷◌, ◌++◌, length}
use Rattle.std.proofs.Common.{get_or, Option, None, Some, sym, ap, ◌∙◌, subst, arith}
use Rattle.std.specs.Prelude.{slice_get}
use Rattle.std.specs.Option.{option_map}
use Rattle.std.proofs.lemmas.Bool.{cases_lt}
use Rattle.std.proofs.lemmas.Option.{slice_get_cases, slice_get_past}
use Rattle.std.proofs.lemmas.List.{length_push}
use Rattle.au_base.proofs.ListLemmas.{get_left, got_last}
use Rattle.au_types.specs.declared.types.DeclAt.{DeclAt}
use Rattle.au_modules.specs.Programs.{ModuleParts}
use Rattle.au_rules.specs.declared.doubles.Double.{Double}
use Rattle.au_rules.specs.Doubles.{double_at, doubles_of, first_double, numbered_double}

-- ---- modules in order

-- the doubles of the modules below a place
pub record AreDoublesBelow (program : List ModuleParts) (place : ℕ) (all : List (List (Option Double))) : Type
    0 where
  pub count : length all ≡ place
  pub each : (k : ℕ) → k < place → slice_get all k ≡ option_map (doubles_of program k) (slice_get program k)

pub none_below : (program : List ModuleParts) (all : List (List (Option Double))) → all ≡ []
    → AreDoublesBelow program 0 all
none_below program all e = record {
  count = ap length e;
  each = λ k h. absurd (omega (arith, h));
}

-- those of one more
pub below_next : (program : List ModuleParts) (place : ℕ) (all after : List (List (Option Double)))
    (one : List (Option Double)) → place < length program
    → AreDoublesBelow program place all → ((m : ModuleParts) → slice_get program place ≡ Some m → one
    ≡ doubles_of program place m)
    → after ≡ all ++ one ∷ [] → AreDoublesBelow program (place + 1) after
below_next program place all after one within old is new = record {
  count = ap length new ∙ length_push all one ∙ ap (λ n. n + 1) old.count;
  each = λ k h. by k h (cases_lt k place);
}
  where
    there : ((m : ModuleParts) × (place < length program) × (slice_get program place ≡ Some m)
        × (get_or program place m ≡ m)) ⊎ ((length program ≤ place) × (slice_get program place ≡ None))
        → Some one ≡ option_map (doubles_of program place) (slice_get program place)
    there (inl found) = ap Some (is found.0 found.2)
        ∙ sym (ap (option_map (doubles_of program place)) found.2)
    there (inr past) = absurd (omega (arith, past.0, within))

    by : (k : ℕ) → k < place + 1 → (k < place) ⊎ (place ≤ k) → slice_get after k
        ≡ option_map (doubles_of program k) (slice_get program k)
    by k h (inl less) =
        let inside : k < length all = omega (arith, less, old.count) in
        ap (λ r. slice_get r k) new ∙ get_left all (one ∷ []) k inside ∙ old.each k less
    by k h (inr more) =
        let at_end : k ≡ length all = omega (arith, h, more, old.count) in
        let same : place ≡ k = omega (arith, h, more) in
        let P : ℕ → Type 0 = λ n. Some one ≡ option_map (doubles_of program n) (slice_get program n) in
        ap (λ r. slice_get r k) new ∙ got_last all one k at_end
        ∙ subst P same (there (slice_get_cases program place).1)

-- those of all
pub below_all : (program : List ModuleParts) (place : ℕ) (all : List (List (Option Double)))
    → length program ≤ place
    → AreDoublesBelow program place all → (at : DeclAt) → double_at all at ≡ first_double program at
below_all program place all past below = λ at. ap (numbered_double at.decl)
    (by at.«module» (cases_lt at.«module» place))
  where
    by : (k : ℕ) → (k < place) ⊎ (place ≤ k) → slice_get all k
        ≡ option_map (doubles_of program k) (slice_get program k)
    by k (inl less) = below.each k less
    by k (inr more) =
        let end : length all ≤ k = omega (arith, more, below.count) in
        let over : length program ≤ k = omega (arith, more, past) in
        slice_get_past all k end ∙ sym (ap (option_map (doubles_of program k))
        (slice_get_past program k over))
