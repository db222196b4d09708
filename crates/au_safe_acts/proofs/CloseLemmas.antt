-- Tokens of the meaning begin, and end with the borrows that were opened since.
use Rattle.std.proofs.Common.{◌≡◌, inr, ℕ, zero, suc, ◌+◌, ◌-◌, ◌==◌, Bool, true, false, List, [], ◌∷◌, ◌++◌, length}
use Rattle.std.proofs.Common.{Option, take, drop, refl, sym, ap, ◌∙◌, arith, if◌then◌else◌}
use Rattle.std.specs.Prelude.{map}
use Rattle.au_effects.specs.References.{newer, oldest}
use Rattle.au_effects.specs.Worlds.{closed, closes, tells}
use Rattle.au_type_texts.specs.Types.{ClosedType}
use Rattle.au_memory.specs.Forests.{Made}
use Rattle.au_memory.specs.Loans.{Types}
use Rattle.au_lending.specs.Ending.{freed}
use Rattle.au_borrows.specs.Orders.{Act, Lying}
use Rattle.au_borrows.specs.Told.{numbers, with_closings}
use Rattle.au_frames.proofs.EndLemmas as acting
use Rattle.au_frames.proofs.StartLemmas.{agrees}
use Rattle.au_agreeing.specs.Stores.{memory_of, sizes_of, told_of}
use Rattle.au_agreeing.proofs.ToldLemmas.{closed_told}
use Rattle.au_frames.specs.Frames.{Frame, hold_at, type_at}
use Rattle.au_meaning.specs.Acts.{closed_to}
use Rattle.au_meaning.specs.Worlds.{Borrow, Store, World}
use Rattle.au_sound_calls.proofs.SoundLemmas.{sound_as, told_memory}
use Rattle.au_safe_acts.specs.Closing.{TokensBegin, TokensEnd, freed_frames}
use Rattle.au_safe_acts.specs.Good.{IsIn, lying_in, open_of}

-- ---- lists

take_map : {A B : Type 0} (go : A → B) (n : ℕ) (xs : List A) → map go (take n xs) ≡ take n (map go xs)
take_map go zero xs = refl
take_map go (suc n) [] = refl
take_map go (suc n) (x ∷ xs) = ap (λ ys. go x ∷ ys) (take_map go n xs)

drop_map : {A B : Type 0} (go : A → B) (n : ℕ) (xs : List A) → map go (drop n xs) ≡ drop n (map go xs)
drop_map go zero xs = refl
drop_map go (suc n) [] = refl
drop_map go (suc n) (x ∷ xs) = drop_map go n xs

take_front : {A : Type 0} (xs ys : List A) → take (length xs) (xs ++ ys) ≡ xs
take_front [] ys = refl
take_front (x ∷ xs) ys = ap (λ zs. x ∷ zs) (take_front xs ys)

drop_front : {A : Type 0} (xs ys : List A) → drop (length xs) (xs ++ ys) ≡ ys
drop_front [] ys = refl
drop_front (x ∷ xs) ys = drop_front xs ys

length_map : {A B : Type 0} (go : A → B) (xs : List A) → length (map go xs) ≡ length xs
length_map go [] = refl
length_map go (x ∷ xs) = ap suc (length_map go xs)

length_both : {A : Type 0} (xs ys : List A) → length (xs ++ ys) ≡ length xs + length ys
length_both [] ys = omega arith
length_both (x ∷ xs) ys = let rest = length_both xs ys in omega arith

-- the number of a borrow
abbrev number_of : Borrow → ℕ
number_of one = one.number

same_numbers : (xs : List Borrow) → map number_of xs ≡ numbers (map open_of xs)
same_numbers [] = refl
same_numbers (x ∷ xs) = ap (λ ns. x.number ∷ ns) (same_numbers xs)

-- ---- closing

closed_memory : (bs : List ℕ) (s : Store) → memory_of (closes bs s) ≡ memory_of s
closed_memory [] s = refl
closed_memory (b ∷ rest) s = closed_memory rest (tells (closed b) s) ∙ told_memory (closed b) s

closed_keeps : (bs : List ℕ) (s : Store) → (closes bs s).keeps ≡ s.keeps
closed_keeps [] s = refl
closed_keeps (b ∷ rest) s = closed_keeps rest (tells (closed b) s)

closed_sizes : (bs : List ℕ) (s : Store) → sizes_of (closes bs s) ≡ sizes_of s
closed_sizes [] s = refl
closed_sizes (b ∷ rest) s = closed_sizes rest (tells (closed b) s)

-- ---- names are freed in frames

freed_length : (z : ℕ) (fs : List Frame) → length (freed_frames z fs) ≡ length fs
freed_length z [] = refl
freed_length z (f ∷ fs) = ap suc (freed_length z fs)

freed_hold : (z : ℕ) (fs : List Frame) (k x : ℕ) → freed z (hold_at fs k x) ≡ hold_at (freed_frames z fs) k x
freed_hold z [] k x = refl
freed_hold z (f ∷ fs) k x =
    by (length fs == k) (freed_hold z fs k x)
    ∙ ap (λ (n : ℕ). if n == k then freed z (f.hold x) else hold_at (freed_frames z fs) k x) (sym (freed_length z fs))
  where
    by : (b : Bool) → freed z (hold_at fs k x) ≡ hold_at (freed_frames z fs) k x
        → freed z (if b then f.hold x else hold_at fs k x)
        ≡ (if b then freed z (f.hold x) else hold_at (freed_frames z fs) k x)
    by true rest = refl
    by false rest = rest

freed_type : (z : ℕ) (fs : List Frame) (k x : ℕ) → type_at fs k x ≡ type_at (freed_frames z fs) k x
freed_type z [] k x = refl
freed_type z (f ∷ fs) k x =
    by (length fs == k) (freed_type z fs k x)
    ∙ ap (λ (n : ℕ). if n == k then f.type x else type_at (freed_frames z fs) k x) (sym (freed_length z fs))
  where
    by : (b : Bool) → type_at fs k x ≡ type_at (freed_frames z fs) k x
        → (if b then f.type x else type_at fs k x) ≡ (if b then f.type x else type_at (freed_frames z fs) k x)
    by true rest = refl
    by false rest = rest

module _ (types : Types) (owner : ClosedType → Option (List ℕ)) (acts : List Act) (fs : List Frame)
    (sizes : List ℕ) (under : Made) (w : World) where
  pub tokens_begin : TokensBegin types owner acts fs sizes under w
  tokens_begin state =
      let done = acting.begins ClosedType types owner acts (hold_at fs) (type_at fs) under (memory_of w.store)
      (told_of (lying_in w) w.store) state.safe in (
        done.0,
        done.1,
        record { keeps = state.keeps; sized = state.sized; safe = done.3 },
      )

  -- the borrows that are closed where the newest token ends, and those that are left
  module _ (a : Act) (older : List Act) (newest : Lying) (lies : lying_in w ≡ newest ++ a.base) where
    left : length w.borrows - length a.base ≡ length newest
    left =
        let many = sym (length_map open_of w.borrows) ∙ ap (λ (xs : Lying). length xs) lies
        ∙ length_both newest a.base in
        omega arith

    front : map open_of (newer (length a.base) w.borrows) ≡ newest
    front =
        take_map open_of (length w.borrows - length a.base) w.borrows
        ∙ ap (λ (xs : Lying). take (length w.borrows - length a.base) xs) lies
        ∙ ap (λ (n : ℕ). take n (newest ++ a.base)) left
        ∙ take_front newest a.base

    back : map open_of (oldest (length a.base) w.borrows) ≡ a.base
    back =
        drop_map open_of (length w.borrows - length a.base) w.borrows
        ∙ ap (λ (xs : Lying). drop (length w.borrows - length a.base) xs) lies
        ∙ ap (λ (n : ℕ). drop n (newest ++ a.base)) left
        ∙ drop_front newest a.base

  pub left_lying : (a : Act) (older : List Act) → acts ≡ a ∷ older → IsIn types owner acts fs sizes under w
      → lying_in (closed_to (length a.base) w) ≡ a.base
  left_lying a older acts_are state =
      let done = acting.ends ClosedType types owner acts (hold_at fs) (type_at fs) under (memory_of w.store)
      (told_of (lying_in w) w.store) a older acts_are state.safe in
      back a older done.0 done.1

  pub tokens_end : TokensEnd types owner acts fs sizes under w
  tokens_end a older acts_are state =
      let s = w.store in
      let done = acting.ends ClosedType types owner acts (hold_at fs) (type_at fs) under (memory_of s)
      (told_of (lying_in w) s) a older acts_are state.safe in
      let lies : lying_in w ≡ done.0 ++ a.base = done.1 in
      let bs = map number_of (newer (length a.base) w.borrows) in
      let left = map open_of (oldest (length a.base) w.borrows) in
      let told : told_of left (closes bs s) ≡ with_closings done.0 a.base (told_of (lying_in w) s) =
      ap (λ (xs : Lying). told_of xs (closes bs s)) (back a older done.0 lies)
      ∙ ap (λ (ns : List ℕ). told_of a.base (closes ns s)) (same_numbers (newer (length a.base) w.borrows))
      ∙ ap (λ (xs : Lying). told_of a.base (closes (numbers xs) s)) (front a older done.0 lies)
      ∙ closed_told s state.keeps done.0 a.base
      ∙ ap (λ (xs : Lying). with_closings done.0 a.base (told_of xs s)) (sym lies) in
      let safe = agrees ClosedType types owner older (λ frame x. freed a.token (hold_at fs frame x)) (type_at fs) under
      (memory_of s) (with_closings done.0 a.base (told_of (lying_in w) s)) (hold_at (freed_frames a.token fs))
      (type_at (freed_frames a.token fs)) (memory_of s) (freed_hold a.token fs)
      (λ k x. inr (freed_type a.token fs k x)) (λ base. refl) (λ i. refl) done.2 in
      sound_as ClosedType types owner older (hold_at (freed_frames a.token fs)) (type_at (freed_frames a.token fs)) under
      left sizes (closes bs s) (memory_of s)
      (with_closings done.0 a.base (told_of (lying_in w) s)) (closed_keeps bs s ∙ state.keeps)
      (closed_sizes bs s ∙ state.sized) (closed_memory bs s) told safe
