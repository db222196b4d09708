-- Borrows that are closed, on both sides.
use Rattle.std.proofs.Common.{◌≡◌, ℕ, zero, suc, ◌+◌, ◌-◌, ◌≤◌, List, [], ◌∷◌, ◌++◌, length, map}
use Rattle.std.proofs.Common.{take, drop, refl, ap, ap₂, ◌∙◌, arith}
use Rattle.std.proofs.lemmas.List.{length-append, length-map}
use Rattle.au_type_texts.specs.Types.{ClosedType}
use Rattle.au_effects.specs.References.{oldest, newer}
use Rattle.au_effects.specs.Worlds as effects
use Rattle.au_meaning.specs.Acts.{closed_to}
use Rattle.au_meaning.specs.Worlds.{Borrow}
use Rattle.au_lowered.specs.Frames.{Frame, Wide, resting, Rest_of, Agree, world}
use Rattle.au_lowered.specs.Scopes.{Entry}
use Rattle.au_lowered.specs.Sides.{Coding, Names, Slots, Common, as_meant}
use Rattle.au_lowered.proofs.DeedLemmas.{closes_to}
use Rattle.au_lowered.proofs.MoveLemmas.{low_closed, deeds_closed}

-- ---- lists

take_front : {A : Type 0} (xs ys : List A) (k : ℕ) → k ≤ length xs → take k (xs ++ ys) ≡ take k xs
take_front xs ys zero h = refl
take_front [] ys (suc k) h = absurd (omega (arith, h))
take_front (x ∷ xs) ys (suc k) h = ap (λ all. x ∷ all) (take_front xs ys k (omega (arith, h)))

drop_front : {A : Type 0} (xs ys : List A) (k : ℕ) → k ≤ length xs → drop k (xs ++ ys) ≡ drop k xs ++ ys
drop_front xs ys zero h = refl
drop_front [] ys (suc k) h = absurd (omega (arith, h))
drop_front (x ∷ xs) ys (suc k) h = drop_front xs ys k (omega (arith, h))

take_map : {A B : Type 0} (g : A → B) (xs : List A) (k : ℕ) → take k (map g xs) ≡ map g (take k xs)
take_map g xs zero = refl
take_map g [] (suc k) = refl
take_map g (x ∷ xs) (suc k) = ap (λ all. g x ∷ all) (take_map g xs k)

drop_map : {A B : Type 0} (g : A → B) (xs : List A) (k : ℕ) → drop k (map g xs) ≡ map g (drop k xs)
drop_map g xs zero = refl
drop_map g [] (suc k) = refl
drop_map g (x ∷ xs) (suc k) = drop_map g xs k

drop_many : {A : Type 0} (xs : List A) (k : ℕ) → k ≤ length xs → length (drop k xs) + k ≡ length xs
drop_many xs zero h = omega arith
drop_many [] (suc k) h = absurd (omega (arith, h))
drop_many (x ∷ xs) (suc k) h = let more = drop_many xs k (omega (arith, h)) in omega (arith, more)

-- so many are left
pub oldest_many : {A : Type 0} (xs : List A) (count : ℕ) → count ≤ length xs → length (oldest count xs) ≡ count
oldest_many xs count h =
    let many = drop_many xs (length xs - count) (omega arith) in omega (arith, many, h)

-- of numbers of borrows
pub newer_map : {A B : Type 0} (g : A → B) (count : ℕ) (xs : List A) → newer count (map g xs)
    ≡ map g (newer count xs)
newer_map g count xs = ap (λ n. take (n - count) (map g xs)) (length-map xs g) ∙ take_map g xs (length xs -
    count)

pub oldest_map : {A B : Type 0} (g : A → B) (count : ℕ) (xs : List A) → oldest count (map g xs)
    ≡ map g (oldest count xs)
oldest_map g count xs = ap (λ n. drop (n - count) (map g xs)) (length-map xs g) ∙ drop_map g xs (length xs -
    count)

-- of those of a frame and of the frames below
newer_front : {A : Type 0} (count k : ℕ) (xs ys : List A) → k ≡ count + length ys
    → newer k (xs ++ ys) ≡ newer count xs
newer_front count k xs ys e =
    let over : length (xs ++ ys) - k ≡ length xs - count = omega (arith, e, length-append xs ys) in
    ap (λ n. take n (xs ++ ys)) over ∙ take_front xs ys (length xs - count) (omega arith)

oldest_front : {A : Type 0} (count k : ℕ) (xs ys : List A) → k ≡ count + length ys
    → oldest k (xs ++ ys) ≡ oldest count xs ++ ys
oldest_front count k xs ys e =
    let over : length (xs ++ ys) - k ≡ length xs - count = omega (arith, e, length-append xs ys) in
    ap (λ n. drop n (xs ++ ys)) over ∙ drop_front xs ys (length xs - count) (omega arith)

take_whole : {A : Type 0} (xs : List A) (k : ℕ) → k ≡ length xs → take k xs ≡ xs
take_whole [] zero e = refl
take_whole [] (suc k) e = refl
take_whole (x ∷ xs) zero e = absurd (omega (arith, e))
take_whole (x ∷ xs) (suc k) e = ap (λ all. x ∷ all) (take_whole xs k (omega (arith, e)))

drop_whole : {A : Type 0} (xs : List A) (k : ℕ) → k ≡ length xs → drop k xs ≡ []
drop_whole [] zero e = refl
drop_whole [] (suc k) e = refl
drop_whole (x ∷ xs) zero e = absurd (omega (arith, e))
drop_whole (x ∷ xs) (suc k) e = drop_whole xs k (omega (arith, e))

-- none is left
pub newer_all : {A : Type 0} (xs : List A) → newer 0 xs ≡ xs
newer_all xs = take_whole xs (length xs - 0) (omega arith)

pub oldest_none : {A : Type 0} (xs : List A) → oldest 0 xs ≡ []
oldest_none xs = drop_whole xs (length xs - 0) (omega arith)

-- the number of a borrow
abbrev pub borrow_number : Borrow → ℕ
borrow_number one = one.number

-- so many of the borrows of a frame are left
abbrev pub names_closed : ℕ → Names → Names
names_closed count names = record names { lent = oldest count names.lent }

module _ (by : Coding) (f : Frame by) where
  -- what the meaning closes
  pub closed_meant : (count k : ℕ) (names : Names) (c : Common by) → k ≡ count + length f.lent
      → closed_to k (world by f names c)
      ≡ world by f (names_closed count names) (deeds_closed (map borrow_number (newer count names.lent)) c)
  closed_meant count k names c e =
      let w = world by f names c in
      ap₂ (λ new old. record w { store = effects.closes (map borrow_number new) w.store; borrows = old })
      (newer_front count k names.lent f.lent e) (oldest_front count k names.lent f.lent e)
      ∙ ap (λ store. record w { store = store; borrows = oldest count names.lent ++ f.lent })
      (closes_to (as_meant by) (λ (t : ClosedType). t) (names.below ++ names.own ∷ []) (map borrow_number (newer
      count names.lent)) c.store)

  -- it closes nothing where no more are open
  pub closed_none : (k : ℕ) (names : Names) (c : Common by) → k ≡ length names.lent + length f.lent
      → closed_to k (world by f names c) ≡ world by f names c
  closed_none k names c e =
      let w = world by f names c in
      let over : length (names.lent ++ f.lent) - k ≡ 0 = omega (arith, e, length-append names.lent f.lent) in
      ap (λ n. record w {
        store = effects.closes (map borrow_number (take n (names.lent ++ f.lent))) w.store;
        borrows = drop n (names.lent ++ f.lent);
      }) over

  -- both close the same
  pub newer_both : (count : ℕ) (names : Names) (slots : Slots) → Rest_of by f names slots
      → newer count slots.lent ≡ map borrow_number (newer count names.lent)
  newer_both count names slots rest = ap (λ all. newer count all) rest.lent_are ∙ newer_map borrow_number count
      names.lent

  pub rest_closed : (count : ℕ) (names : Names) (slots : Slots) → Rest_of by f names slots
      → Rest_of by f (names_closed count names) (low_closed count slots)
  rest_closed count names slots rest = record {
    levels = rest.levels;
    lent_are = ap (λ all. oldest count all) rest.lent_are ∙ oldest_map borrow_number count names.lent;
  }

  -- the frame agrees where so many are left as borrow statements stand round
  pub agree_closed : (wide : Wide) (room count : ℕ) (scope : List (Entry by)) (names : Names) (slots : Slots)
      → count ≤ length names.lent → Agree by f wide room scope names slots
      → Agree by f (resting wide.count count) room scope (names_closed count names) (low_closed count
      slots)
  agree_closed wide room count scope names slots h ag = record {
    names_are = ag.names_are;
    slots_are = ag.slots_are;
    held = ag.held;
    only = ag.only;
    rest = rest_closed count names slots ag.rest;
    since = oldest_many names.lent count h;
  }
