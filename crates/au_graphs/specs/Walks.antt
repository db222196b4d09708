-- The walk that lists what is reached, within limits: `over` says what is wrong with an element itself, if
-- anything, and the list has at most `most` elements, where `full` is what is wrong with one more.
use Rattle.std.specs.Prelude.{◌≡◌, ◌==◌, ◌+◌, ◌≤◌, ℕ, zero, suc, Bool, true, false, List, [], ◌∷◌, ◌++◌}
use Rattle.std.specs.Prelude.{Option, None, Some, Result, Ok, Err, length, drop}
use Rattle.au_graphs.specs.Reached.{has, Has, Reached, adds, all_next}

-- a walk's answer: a list, or what is wrong with the first element that passes a limit
abbrev pub Walked : Type 0 → Type 0 → Type 0
Walked A W = Result (List A) W

module _ {A W : Type 0} where
  -- going on with the list, if there is one
  abbrev pub on_ok : Walked A W → (List A → Walked A W) → Walked A W
  on_ok (Ok ks) more = more ks
  on_ok (Err w) more = Err w

  -- an answer unless something is wrong before
  abbrev pub unless : Option W → Walked A W → Walked A W
  unless None answer = answer
  unless (Some w) answer = Err w

  -- a list with one more element, unless it is full
  abbrev pub room : W → Bool → List A → A → Walked A W
  room full true ks x = Err full
  room full false ks x = Ok (ks ++ x ∷ [])

  -- going on at the first element, if there is one
  abbrev pub at_first : List A → Walked A W → (A → Walked A W) → Walked A W
  at_first [] done more = done
  at_first (k ∷ ks) done more = more k

module _ {A W : Type 0} (same : A → A → Bool) (over : A → Option W) (most : ℕ) where
  -- a list passes no limit
  pub record IsWithin (ks : List A) : Type 0 where
    pub each : (k : A) → Has same ks k → over k ≡ None
    pub few : length ks ≤ most

module _ {A W : Type 0} (same : A → A → Bool) (over : A → Option W) (full : W) (most : ℕ) where
  -- an element put at the end of a list, if the list doesn't have it yet: its own limits come before the
  -- list's
  abbrev pub put_within : Bool → List A → A → Walked A W
  put_within true ks x = Ok ks
  put_within false ks x = unless (over x) (room full (length ks == most) ks x)

  -- elements put at the end in their order
  abbrev pub adds_within : List A → List A → Walked A W
  adds_within ks [] = Ok ks
  adds_within ks (x ∷ xs) = on_ok (put_within (has same ks x) ks x) (λ l. adds_within l xs)

  -- an element passes a limit after these: by itself, or since they are as many as there may be
  pub data Passes (ks : List A) (x : A) : W → Type 0 where
    itself : (w : W) → over x ≡ Some w → Passes ks x w
    one_more : over x ≡ None → length ks ≡ most → Passes ks x full

  module _ (next : A → List A) where
    -- the walk from a place of the list on, for so many elements
    unfoldable pub walk : ℕ → List A → ℕ → Walked A W
    walk zero ks i = Ok ks
    walk (suc f) ks i =
        at_first (drop i ks) (Ok ks) (λ k. on_ok (adds_within ks (next k)) (λ l. walk f l (i + 1)))

    -- the whole walk: each turn is at an element of the list, so one more than the most turns are enough
    abbrev pub listed : List A → Walked A W
    listed starts = on_ok (adds_within [] starts) (λ ks. walk (suc most) ks 0)

    -- A list is how the list of what is reached begins, and an element comes next: the list has the starts,
    -- and what follows some of its own first elements, in order and each once, up to that element, which is
    -- new. It has nothing that isn't reached.
    pub record Begins (starts ks : List A) (x : A) : Type 0 where
      pub looked : List A
      pub later : List A
      pub front : List A
      pub behind : List A
      pub split : ks ≡ looked ++ later
      pub order : starts ++ all_next next looked ≡ front ++ x ∷ behind
      pub added : ks ≡ adds same [] front
      pub is_new : has same ks x ≡ false
      pub reached : (y : A) → Has same ks y → Reached same next starts y

    -- the first element, breadth first, that passes a limit, and what is wrong with it
    pub record Refused (starts : List A) (w : W) : Type 0 where
      pub before : List A
      pub first : A
      pub begins : Begins starts before first
      pub within : IsWithin same over most before
      pub passes : Passes before first w
