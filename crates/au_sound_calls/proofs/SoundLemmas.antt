-- Stores that are as they should be, and what calls come to.
use Rattle.std.proofs.Common.{◌≡◌, ℕ, Bool, true, List, ◌∷◌, Option, Some, refl, sym, ap, subst, ◌∙◌, ℤ}
use Rattle.std.specs.Prelude.{int_le}
use Rattle.au_base.specs.declared.kinds.IntKind.{IntKind}
use Rattle.au_ints.specs.Ranges.{least_of}
use Rattle.au_effects.specs.Answers.{Answer}
use Rattle.au_effects.specs.Calls.{given, use_of}
use Rattle.au_effects.specs.Places as places
use Rattle.au_effects.specs.Places.{base_at}
use Rattle.au_effects.specs.Values.{Base, Place, Value, box, buffer, content_of, made, name_of, number, reference, root}
use Rattle.au_effects.specs.Values.{terminal, text, truth, unit}
use Rattle.au_effects.specs.Worlds.{Deed, World, born, tells, used}
use Rattle.au_events.specs.Laws.{FitsHome}
use Rattle.au_places.specs.Memories.{Memory}
use Rattle.au_types.specs.Types as meaning
use Rattle.au_types.specs.Types.{Meaning}
use Rattle.au_memory.specs.Forests.{Holds, Made}
use Rattle.au_memory.specs.Loans.{Types}
use Rattle.au_memory.specs.Shown.{IsPlain}
use Rattle.au_borrows.specs.Orders.{Act}
use Rattle.au_borrows.specs.Told.{Open, Told, with_use}
use Rattle.au_acting.specs.Safe.{IsSafe}
use Rattle.au_acting.proofs.EndLemmas as acting
use Rattle.au_acting.proofs.ValueLemmas.{plains}
use Rattle.au_agreeing.specs.Stores.{memory_of, sizes_of, told_of}
use Rattle.au_agreeing.proofs.StoreLemmas.{same_memory}
use Rattle.au_agreeing.proofs.ToldLemmas.{used_told}
use Rattle.au_sound_calls.specs.Sound.{IsHomeOf, IsSound, IsToldWell}

-- ---- what calls need

-- what is there goes on
pub given_good : {A B : Type 0} (P : Answer (List ℕ) B → Type 0) (o : Option A) (a : A)
    (go : A → Answer (List ℕ) B) → o ≡ Some a → P (go a) → P (given o go)
given_good P o a go is good = subst (λ x. P (given x go)) (sym is) good

pub used_good : {B : Type 0} (P : Answer (List ℕ) B → Type 0) (w : World (List ℕ) B) (r : Value (List ℕ)) (b : ℕ)
    (to : Place) (held : Value (List ℕ)) (go : ℕ → Place → Value (List ℕ) → Answer (List ℕ) B)
    → r ≡ reference b to → places.at to w ≡ Some held → P (go b to held) → P (use_of r w go)
used_good P w r b to held go leads there good =
    subst (λ v. P (use_of v w go)) (sym leads)
    (given_good P (places.at to w) held (λ h. go b to h) there good)

-- what is told changes no memory
pub told_memory : {B : Type 0} (deed : Deed B) (w : World (List ℕ) B) → memory_of (tells deed w) ≡ memory_of w
told_memory deed w = same_memory (memory_of (tells deed w)) (memory_of w) at (λ i. refl)
  where
    at : (base : Base) → base_at base (tells deed w) ≡ base_at base w
    at (name_of frame x) = refl
    at (content_of i) = refl

-- what has its home there may be born
pub home_fits : {B : Type 0} (owner : B → Option (List ℕ)) (n : ℕ) (kind : B) (home : List ℕ) → IsHomeOf owner kind home
    → FitsHome owner (born n kind home)
home_fits {B} owner n kind home own id of other module' is has =
    let kinds : kind ≡ of = cc in
    let homes : home ≡ other = cc in
    sym homes ∙ own module' (subst (λ (k : B). owner k ≡ Some module') (sym kinds) has)

module _ (B : Type 0) (types : Types) (owner : B → Option (List ℕ)) (acts : List Act) (hold : Holds)
    (names : ℕ → ℕ → Meaning) (under : Made) (lying : List Open) (sizes : List ℕ) (w : World (List ℕ) B) where
  -- a store that has this memory, and of which this is told
  pub sound_as : (m : Memory (List ℕ)) (u : Told B) → w.keeps ≡ true → sizes_of w ≡ sizes → memory_of w ≡ m → told_of lying w ≡ u
      → IsSafe types owner acts hold names under m u → IsSound types owner acts hold names under lying sizes w
  sound_as m u keeps sized memory told safe = record {
    keeps = keeps;
    sized = sized;
    safe = subst (λ n. IsSafe types owner acts hold names under n (told_of lying w)) (sym memory)
        (subst (λ v. IsSafe types owner acts hold names under m v) (sym told) safe);
  }

  -- what was told of it
  pub told_well : IsSound types owner acts hold names under lying sizes w
      → IsToldWell types owner acts hold names w
  told_well sound = acting.tells B types owner acts hold names under (memory_of w) (told_of lying w) sound.safe

  -- where a value that holds nothing comes under way
  pub sound_plain : (v : Value (List ℕ)) (t : Meaning) → IsPlain v t
      → IsSound types owner acts hold names under lying sizes w
      → IsSound types owner acts hold names ((v, t) ∷ under) lying sizes w
  sound_plain v t plain sound = record {
    keeps = sound.keeps;
    sized = sound.sized;
    safe = plains B types owner acts hold names under (memory_of w) (told_of lying w) v t plain sound.safe;
  }

module _ (B : Type 0) (types : Types) (owner : B → Option (List ℕ)) (acts : List Act) (hold : Holds)
    (names : ℕ → ℕ → Meaning) (under : Made) (lying : List Open) (sizes : List ℕ) (w : World (List ℕ) B) where
  -- where a borrow was used
  pub sound_used : (b : ℕ) → w.keeps ≡ true → sizes_of w ≡ sizes
      → IsSafe types owner acts hold names under (memory_of w) (with_use b (told_of lying w))
      → IsSound types owner acts hold names under lying sizes (tells (used b) w)
  sound_used b keeps sized safe =
      sound_as B types owner acts hold names under lying sizes (tells (used b) w) (memory_of w)
      (with_use b (told_of lying w)) keeps sized (told_memory (used b) w) (used_told w keeps lying b) safe

-- ---- values that hold nothing

pub text_is : (v : Value (List ℕ)) → IsPlain v meaning.text → (b : List ℕ) × (v ≡ text b)
text_is unit h = absurd h
text_is (truth b) h = absurd h
text_is (number kind z) h = absurd h
text_is (text b) h = (b, refl)
text_is (made tag birth _) h = absurd h
text_is (reference b to) h = absurd h
text_is (box i) h = absurd h
text_is (buffer i) h = absurd h
text_is (terminal i) h = absurd h
text_is (root i) h = absurd h

pub truth_is : (v : Value (List ℕ)) → IsPlain v meaning.truth → (b : Bool) × (v ≡ truth b)
truth_is unit h = absurd h
truth_is (truth b) h = (b, refl)
truth_is (number kind z) h = absurd h
truth_is (text b) h = absurd h
truth_is (made tag birth _) h = absurd h
truth_is (reference b to) h = absurd h
truth_is (box i) h = absurd h
truth_is (buffer i) h = absurd h
truth_is (terminal i) h = absurd h
truth_is (root i) h = absurd h

pub number_is : (v : Value (List ℕ)) (kind : IntKind) → IsPlain v (meaning.integer kind)
    → (z : ℤ) × (v ≡ number kind z) × (int_le (least_of kind) z ≡ true)
number_is unit kind h = absurd h
number_is (truth b) kind h = absurd h
number_is (number other z) kind h = (
  z,
  ap (λ k. number k z) h.0,
  subst (λ k. int_le (least_of k) z ≡ true) h.0 h.1,
)
number_is (text b) kind h = absurd h
number_is (made tag birth _) kind h = absurd h
number_is (reference b to) kind h = absurd h
number_is (box i) kind h = absurd h
number_is (buffer i) kind h = absurd h
number_is (terminal i) kind h = absurd h
number_is (root i) kind h = absurd h
