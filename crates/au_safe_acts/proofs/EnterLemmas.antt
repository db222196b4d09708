-- Frames of the meaning begin and end.
use Rattle.std.proofs.Common.{◌≡◌, ◌⊎◌, inl, inr, ℕ, zero, suc, ◌+◌, ◌<◌, ◌≤◌, ◌==◌, ◌&&◌, Bool, true, false, List, []}
use Rattle.std.proofs.Common.{◌∷◌, ◌++◌, length, take, Option, Some, refl, sym, ap, subst, ◌∙◌, slice_get, arith}
use Rattle.std.proofs.Common.{if◌then◌else◌}
use Rattle.std.specs.Prelude.{None, map, replicate}
use Rattle.std.proofs.lemmas.Bool.{cases_lt, eq-eqb, eqb-true, ne_eqb}
use Rattle.au_effects.specs.Parts.{along}
use Rattle.au_effects.specs.Places.{base_at}
use Rattle.au_effects.specs.Values.{Base, content_of, name_of}
use Rattle.au_places.specs.Memories.{Memory}
use Rattle.au_type_texts.specs.Types.{ClosedType}
use Rattle.au_memory.specs.Forests.{Made}
use Rattle.au_memory.specs.Loans.{Types}
use Rattle.au_borrows.specs.Orders.{Act}
use Rattle.au_frames.specs.Safe.{IsSafe}
use Rattle.au_agreeing.specs.Stores.{memory_of, sizes_of, told_of}
use Rattle.au_agreeing.proofs.ListLemmas.{along_more, get_none}
use Rattle.au_agreeing.proofs.StoreLemmas.{same_memory}
use Rattle.au_frames.specs.Frames.{Frame, at_outside, frame_of, hold_at, type_at, with_frame, without_frame}
use Rattle.au_frames.proofs.EntryLemmas.{frames_from}
use Rattle.au_frames.proofs.ReturnLemmas.{frames_end}
use Rattle.au_meaning.specs.Acts.{frame_in, new_names}
use Rattle.au_meaning.specs.Worlds.{Store, Value, World}
use Rattle.au_safe_acts.specs.Entering.{EntersWell, LeavesWell}
use Rattle.au_safe_acts.specs.Good.{lying_in}
use Rattle.au_safe_acts.specs.Making.{values_of}

-- ---- the names of a new frame

abbrev look : ℕ → List (Option Value) → Option Value
look x names = along (slice_get names x) (λ value. value)

-- what names from one on hold, and otherwise this
abbrev params : ℕ → Made → ℕ → Option Value → Option Value
params first [] x other = other
params first (v ∷ vs) x other = if first == x then Some v.0 else params (suc first) vs x other

no_param : (vs : Made) (first x : ℕ) (other : Option Value) → x < first → params first vs x other ≡ other
no_param [] first x other below = refl
no_param (v ∷ vs) first x other below =
    ap (λ (b : Bool). if b then Some v.0 else params (suc first) vs x other) (ne_eqb first x (λ same. omega arith))
    ∙ no_param vs (suc first) x other (omega arith)

look_none : (n x : ℕ) → look x (replicate n None) ≡ None
look_none zero x = refl
look_none (suc n) zero = refl
look_none (suc n) (suc x) = look_none n x

look_before : (n x : ℕ) (rest : List (Option Value)) → x < n → look x (replicate n None ++ rest) ≡ None
look_before zero x rest below = absurd (omega arith)
look_before (suc n) zero rest below = refl
look_before (suc n) (suc x) rest below = look_before n x rest (omega arith)

look_behind : (n x y : ℕ) (rest : List (Option Value)) → y ≡ n + x → look y (replicate n None ++ rest) ≡ look x rest
look_behind zero x y rest is = let same : y ≡ x = omega arith in ap (λ (j : ℕ). look j rest) same
look_behind (suc n) x zero rest is = absurd (omega arith)
look_behind (suc n) x (suc y) rest is = look_behind n x y rest (omega arith)

look_params : (vs : Made) (others x j y : ℕ) → y ≡ j + x
    → look x (map (λ (one : Value). Some one) (values_of vs) ++ replicate others None) ≡ params j vs y None
look_params [] others x j y is = look_none others x
look_params (v ∷ vs) others zero j y is =
    let same : j ≡ y = omega arith in
    sym (ap (λ (b : Bool). if b then Some v.0 else params (suc j) vs y None) (eq-eqb j y same))
look_params (v ∷ vs) others (suc x) j y is =
    look_params vs others x (suc j) y (omega arith)
    ∙ sym (ap (λ (b : Bool). if b then Some v.0 else params (suc j) vs y None) (ne_eqb j y (λ same. omega arith)))

split_at_most : (n x : ℕ) → n ≤ x → (y : ℕ) × (x ≡ n + y)
split_at_most zero x above = (x, omega arith)
split_at_most (suc n) zero above = absurd (omega arith)
split_at_most (suc n) (suc x) above = let rest = split_at_most n x (omega arith) in let is = rest.1 in (rest.0, omega arith)

look_new : (first : ℕ) (vs : Made) (others x : ℕ)
    → look x (new_names first (values_of vs) others) ≡ params first vs x None
look_new first vs others x = by (cases_lt x first)
  where
    by : (x < first) ⊎ (first ≤ x) → look x (new_names first (values_of vs) others) ≡ params first vs x None
    by (inl below) =
        look_before first x (map (λ (one : Value). Some one) (values_of vs) ++ replicate others None) below
        ∙ sym (no_param vs first x None below)
    by (inr above) =
        let rest = split_at_most first x above in
        look_behind first rest.0 x (map (λ (one : Value). Some one) (values_of vs) ++ replicate others None) rest.1
        ∙ look_params vs others rest.0 first x rest.1

-- the same in memory
frame_at : (k first : ℕ) (vs : Made) (m : Memory (List ℕ)) (a x : ℕ)
    → (with_frame k first vs m).at (name_of a x)
    ≡ (if k == a then params first vs x (m.at (name_of a x)) else m.at (name_of a x))
frame_at k first [] m a x = by (k == a)
  where
    by : (b : Bool) → m.at (name_of a x) ≡ (if b then m.at (name_of a x) else m.at (name_of a x))
    by true = refl
    by false = refl
frame_at k first (v ∷ vs) m a x =
    ap (λ (o : Option Value). if (k == a) && (first == x) then Some v.0 else o) (frame_at k (suc first) vs m a x)
    ∙ by (k == a)
  where
    by : (b : Bool)
        → (if b && (first == x) then Some v.0
        else (if b then params (suc first) vs x (m.at (name_of a x)) else m.at (name_of a x)))
        ≡ (if b then (if first == x then Some v.0 else params (suc first) vs x (m.at (name_of a x)))
        else m.at (name_of a x))
    by true = refl
    by false = refl

frame_content : (k first : ℕ) (vs : Made) (m : Memory (List ℕ)) (i : ℕ)
    → (with_frame k first vs m).at (content_of i) ≡ m.at (content_of i)
frame_content k first [] m i = refl
frame_content k first (v ∷ vs) m i = frame_content k (suc first) vs m i

frame_items : (k first : ℕ) (vs : Made) (m : Memory (List ℕ)) (i : ℕ)
    → (with_frame k first vs m).elements i ≡ m.elements i
frame_items k first [] m i = refl
frame_items k first (v ∷ vs) m i = frame_items k (suc first) vs m i

length_map : {A B : Type 0} (go : A → B) (xs : List A) → length (map go xs) ≡ length xs
length_map go [] = refl
length_map go (x ∷ xs) = ap suc (length_map go xs)

map_more : {A B : Type 0} (go : A → B) (xs : List A) (x : A) → map go (xs ++ x ∷ []) ≡ map go xs ++ go x ∷ []
map_more go [] x = refl
map_more go (y ∷ ys) x = ap (λ zs. go y ∷ zs) (map_more go ys x)

map_take : {A B : Type 0} (go : A → B) (n : ℕ) (xs : List A) → map go (take n xs) ≡ take n (map go xs)
map_take go zero xs = refl
map_take go (suc n) [] = refl
map_take go (suc n) (x ∷ xs) = ap (λ zs. go x ∷ zs) (map_take go n xs)

-- a store with one more frame
begun_memory : (s : Store) (first : ℕ) (vs : Made) (others : ℕ)
    → memory_of (record s { frames = s.frames ++ new_names first (values_of vs) others ∷ [] })
    ≡ with_frame (length s.frames) first vs (memory_of s)
begun_memory s first vs others =
    same_memory (memory_of (record s { frames = s.frames ++ new_names first (values_of vs) others ∷ [] }))
    (with_frame (length s.frames) first vs (memory_of s)) at
    (λ i. sym (frame_items (length s.frames) first vs (memory_of s) i))
  where
    none : (a x : ℕ) → length s.frames ≡ a → base_at (name_of a x) s ≡ None
    none a x same =
        subst (λ (n : ℕ). base_at (name_of n x) s ≡ None) same
        (ap (λ (o : Option (List (Option Value))). along o (look x)) (get_none s.frames))

    names_at : (a x : ℕ) → along (slice_get (s.frames ++ new_names first (values_of vs) others ∷ []) a) (look x)
        ≡ (with_frame (length s.frames) first vs (memory_of s)).at (name_of a x)
    names_at a x =
        along_more (look x) s.frames a (new_names first (values_of vs) others)
        ∙ by (length s.frames == a) refl
        ∙ sym (frame_at (length s.frames) first vs (memory_of s) a x)
      where
        by : (b : Bool) → (length s.frames == a) ≡ b
            → (if b then look x (new_names first (values_of vs) others) else along (slice_get s.frames a) (look x))
            ≡ (if b then params first vs x (base_at (name_of a x) s) else base_at (name_of a x) s)
        by true e =
            look_new first vs others x
            ∙ ap (λ (o : Option Value). params first vs x o) (sym (none a x (eqb-true (length s.frames) a e)))
        by false e = refl

    at : (base : Base) → base_at base (record s { frames = s.frames ++ new_names first (values_of vs) others ∷ [] })
        ≡ (with_frame (length s.frames) first vs (memory_of s)).at base
    at (name_of a x) = names_at a x
    at (content_of i) = sym (frame_content (length s.frames) first vs (memory_of s) i)

-- ---- frames that are left

take_before : {A : Type 0} (k a : ℕ) (xs : List A) → a < k → slice_get (take k xs) a ≡ slice_get xs a
take_before zero a xs below = absurd (omega arith)
take_before (suc k) a [] below = refl
take_before (suc k) zero (x ∷ xs) below = refl
take_before (suc k) (suc a) (x ∷ xs) below = take_before k a xs (omega arith)

take_beyond : {A : Type 0} (k a : ℕ) (xs : List A) → k ≤ a → slice_get (take k xs) a ≡ None
take_beyond zero a xs above = refl
take_beyond (suc k) a [] above = refl
take_beyond (suc k) zero (x ∷ xs) above = absurd (omega arith)
take_beyond (suc k) (suc a) (x ∷ xs) above = take_beyond k a xs (omega arith)

get_beyond : {A : Type 0} (xs : List A) (a : ℕ) → length xs ≤ a → slice_get xs a ≡ None
get_beyond [] a above = refl
get_beyond (x ∷ xs) zero above = absurd (omega arith)
get_beyond (x ∷ xs) (suc a) above = get_beyond xs a (omega arith)

left_memory : (s : Store) (k : ℕ) → length s.frames ≡ suc k
    → memory_of (record s { frames = take k s.frames }) ≡ without_frame k (memory_of s)
left_memory s k many =
    same_memory (memory_of (record s { frames = take k s.frames })) (without_frame k (memory_of s)) at (λ i. refl)
  where
    names_at : (a x : ℕ) → along (slice_get (take k s.frames) a) (look x)
        ≡ (if k == a then None else along (slice_get s.frames a) (look x))
    names_at a x = by (cases_lt a k)
      where
        by : (a < k) ⊎ (k ≤ a) → along (slice_get (take k s.frames) a) (look x)
            ≡ (if k == a then None else along (slice_get s.frames a) (look x))
        by (inl below) =
            ap (λ (o : Option (List (Option Value))). along o (look x)) (take_before k a s.frames below)
            ∙ sym (ap (λ (b : Bool). if b then None else along (slice_get s.frames a) (look x))
            (ne_eqb k a (λ same. omega arith)))
        by (inr above) =
            ap (λ (o : Option (List (Option Value))). along o (look x)) (take_beyond k a s.frames above)
            ∙ sym (gone (k == a) refl)
          where
            later : (k < a) ⊎ (a ≤ k) → (k == a) ≡ false → suc k ≤ a
            later (inl less) e = omega arith
            later (inr most) e =
                let same : k ≡ a = omega arith in
                let wrong : true ≡ false = sym (eq-eqb k a same) ∙ e in
                absurd cc

            gone : (b : Bool) → (k == a) ≡ b
                → (if b then None else along (slice_get s.frames a) (look x)) ≡ None
            gone true e = refl
            gone false e =
                let past : suc k ≤ a = later (cases_lt k a) e in
                ap (λ (o : Option (List (Option Value))). along o (look x)) (get_beyond s.frames a (omega arith))

    at : (base : Base) → base_at base (record s { frames = take k s.frames }) ≡ at_outside k (memory_of s) base
    at (name_of a x) = names_at a x
    at (content_of i) = refl

module _ (types : Types) (owner : ClosedType → Option (List ℕ)) (acts : List Act) (fs : List Frame)
    (sizes : List ℕ) (under : Made) (w : World) where
  -- how many frames there are
  many_frames : sizes_of w.store ≡ sizes → length w.store.frames ≡ length sizes
  many_frames sized =
      sym (length_map (λ (names : List (Option Value)). length names) w.store.frames)
      ∙ ap (λ (xs : List ℕ). length xs) sized

  pub enters_well : EntersWell types owner acts fs sizes under w
  enters_well first others values count state =
      let s = w.store in
      let names = new_names first (values_of values) others in
      let frames : length s.frames ≡ length fs = many_frames state.sized ∙ count in
      let safe = frames_from ClosedType types owner acts fs (memory_of s) (told_of (lying_in w) s) values first under
      state.safe in
      let memory = begun_memory s first values others
      ∙ ap (λ (n : ℕ). with_frame n first values (memory_of s)) frames in
      record {
        keeps = state.keeps;
        sized = map_more (λ (one : List (Option Value)). length one) s.frames names
            ∙ ap (λ (xs : List ℕ). xs ++ length names ∷ []) state.sized;
        safe = subst (λ n. IsSafe types owner acts (hold_at (frame_of first values ∷ fs))
            (type_at (frame_of first values ∷ fs)) under n (told_of (lying_in w) s)) (sym memory) safe;
      }

  pub leaves_well : LeavesWell types owner acts fs sizes under w
  leaves_well typed f n loose rest count state =
      let s = w.store in
      let k = length fs in
      let many : length s.frames ≡ suc k = many_frames state.sized ∙ count in
      let frame : frame_in w ≡ k = omega arith in
      let safe = frames_end ClosedType types owner acts fs under (memory_of s) (told_of (lying_in w) s) typed.forms
      typed.lawful f n loose rest state.safe in
      let memory : memory_of (record s { frames = take (frame_in w) s.frames }) ≡ without_frame k (memory_of s) =
      ap (λ (j : ℕ). memory_of (record s { frames = take j s.frames })) frame ∙ left_memory s k many in
      record {
        keeps = state.keeps;
        sized = map_take (λ (one : List (Option Value)). length one) (frame_in w) s.frames
            ∙ ap (λ (xs : List ℕ). take (frame_in w) xs) state.sized
            ∙ ap (λ (j : ℕ). take j sizes) frame;
        safe = subst (λ m. IsSafe types owner acts (hold_at fs) (type_at fs) under m (told_of (lying_in w) s))
            (sym memory) safe;
      }
