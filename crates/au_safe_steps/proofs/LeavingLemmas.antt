-- Many tokens end at once, frames stay, and new frames have room.
use Rattle.std.proofs.Common.{◌≡◌, inl, inr, ℕ, zero, suc, ◌+◌, ◌-◌, ◌≤◌, Bool, List, [], ◌∷◌, ◌++◌}
use Rattle.std.proofs.Common.{length, take, drop, Option, Some, refl, sym, ap, subst, ◌∙◌, slice_get, arith}
use Rattle.std.proofs.Common.{if◌then◌else◌}
use Rattle.std.specs.Prelude.{None, map, replicate}
use Rattle.std.proofs.lemmas.Bool.{ne_eqb}
use Rattle.au_effects.specs.References.{newer, oldest}
use Rattle.au_effects.specs.Worlds.{closed, closes, tells}
use Rattle.au_type_texts.specs.Types.{ClosedType}
use Rattle.au_memory.specs.Forests.{Hold, IsAmong, Made, empty, ready, shut, watched}
use Rattle.au_memory.specs.Loans.{Types}
use Rattle.au_lending.specs.Ending.{freed, left_watched, others_of}
use Rattle.au_safe_acts.specs.Orders.{Act, Lying}
use Rattle.au_safe_acts.specs.Frames.{Frame}
use Rattle.au_meaning.specs.Acts.{closed_to, new_names}
use Rattle.au_meaning.specs.Worlds.{Borrow, Store, Value, World}
use Rattle.au_safe_acts.specs.Closing.{freed_frame, freed_frames}
use Rattle.au_safe_acts.specs.Good.{IsIn, lying_in, open_of}
use Rattle.au_safe_acts.specs.Making.{values_of}
use Rattle.au_safe_acts.proofs.CloseLemmas.{left_lying, tokens_end}
use Rattle.au_safe_steps.specs.Leaving.{FramesHaveRoom, IsClear, OthersStay, TokensEndTo, freed_of}

-- ---- lists

take_none : {A : Type 0} (n : ℕ) → take {A = A} n [] ≡ []
take_none zero = refl
take_none (suc n) = refl

drop_none : {A : Type 0} (n : ℕ) → drop {A = A} n [] ≡ []
drop_none zero = refl
drop_none (suc n) = refl

take_more : {A : Type 0} (i j : ℕ) (xs : List A) → take (i + j) xs ≡ take i xs ++ take j (drop i xs)
take_more zero j xs = let e : 0 + j ≡ j = omega arith in ap (λ (n : ℕ). take n xs) e
take_more (suc i) j [] = take_none (suc i + j) ∙ sym (take_none j)
take_more (suc i) j (x ∷ xs) =
    let e : suc i + j ≡ suc (i + j) = omega arith in
    ap (λ (n : ℕ). take n (x ∷ xs)) e ∙ ap (λ ys. x ∷ ys) (take_more i j xs)

drop_more : {A : Type 0} (i j : ℕ) (xs : List A) → drop (i + j) xs ≡ drop j (drop i xs)
drop_more zero j xs = let e : 0 + j ≡ j = omega arith in ap (λ (n : ℕ). drop n xs) e
drop_more (suc i) j [] = drop_none (suc i + j) ∙ sym (drop_none j)
drop_more (suc i) j (x ∷ xs) =
    let e : suc i + j ≡ suc (i + j) = omega arith in
    ap (λ (n : ℕ). drop n (x ∷ xs)) e ∙ drop_more i j xs

length_drop : {A : Type 0} (i : ℕ) (xs : List A) → length (drop i xs) ≡ length xs - i
length_drop zero xs = omega arith
length_drop (suc i) [] = omega arith
length_drop (suc i) (x ∷ xs) = let rest = length_drop i xs in omega arith

map_both : {A B : Type 0} (go : A → B) (xs ys : List A) → map go (xs ++ ys) ≡ map go xs ++ map go ys
map_both go [] ys = refl
map_both go (x ∷ xs) ys = ap (λ zs. go x ∷ zs) (map_both go xs ys)

length_map : {A B : Type 0} (go : A → B) (xs : List A) → length (map go xs) ≡ length xs
length_map go [] = refl
length_map go (x ∷ xs) = ap suc (length_map go xs)

-- ---- closing twice

abbrev number_of : Borrow → ℕ
number_of one = one.number

abbrev with_open : World → Store → List Borrow → World
with_open w store borrows = record w { store = store; borrows = borrows }

closes_both : (xs ys : List ℕ) (s : Store) → closes (xs ++ ys) s ≡ closes ys (closes xs s)
closes_both [] ys s = refl
closes_both (x ∷ xs) ys s = closes_both xs ys (tells (closed x) s)

module _ (bs : List Borrow) (n m : ℕ) (less : n ≤ m) (most : m ≤ length bs) where
  abbrev all : ℕ
  all = length bs

  abbrev left : List Borrow
  left = oldest m bs

  count : length left ≡ m
  count = let many = length_drop (all - m) bs in omega arith

  steps : all - n ≡ (all - m) + (m - n)
  steps = omega arith

  front : newer n bs ≡ newer m bs ++ newer n left
  front =
      ap (λ (i : ℕ). take i bs) steps
      ∙ take_more (all - m) (m - n) bs
      ∙ ap (λ (i : ℕ). take (all - m) bs ++ take (i - n) left) (sym count)

  back : oldest n left ≡ oldest n bs
  back =
      ap (λ (i : ℕ). drop (i - n) left) count
      ∙ sym (drop_more (all - m) (m - n) bs)
      ∙ ap (λ (i : ℕ). drop i bs) (sym steps)

closed_both : (w : World) (n m : ℕ) → n ≤ m → m ≤ length w.borrows → closed_to n (closed_to m w) ≡ closed_to n w
closed_both w n m less most =
    let bs = w.borrows in
    let first = map number_of (newer m bs) in
    let second = map number_of (newer n (oldest m bs)) in
    let stores : closes second (closes first w.store) ≡ closes (map number_of (newer n bs)) w.store =
    sym (closes_both first second w.store)
    ∙ ap (λ (xs : List ℕ). closes xs w.store)
    (sym (map_both number_of (newer m bs) (newer n (oldest m bs)))
    ∙ ap (λ (xs : List Borrow). map number_of xs) (sym (front bs n m less most))) in
    ap (λ (s : Store). with_open w s (oldest n (oldest m bs))) stores
    ∙ ap (λ (xs : List Borrow). with_open w (closes (map number_of (newer n bs)) w.store) xs) (back bs n m less most)

-- borrows that are left are no more than there were
fewer : (w : World) (n : ℕ) (base : Lying) → lying_in (closed_to n w) ≡ base → length base ≤ length w.borrows
fewer w n base is =
    let own = ap (λ (xs : Lying). length xs) is in
    let all = length_map open_of (oldest n w.borrows) in
    let less = length_drop (length w.borrows - n) w.borrows in
    omega arith

ends_to : (types : Types) (owner : ClosedType → Option (List ℕ)) (newest : List Act) (a : Act) (older : List Act)
    (fs : List Frame) (sizes : List ℕ) (under : Made) (w : World)
    → IsIn types owner (newest ++ a ∷ older) fs sizes under w
    → IsIn types owner older (freed_of (newest ++ a ∷ []) fs) sizes under (closed_to (length a.base) w)
    × (lying_in (closed_to (length a.base) w) ≡ a.base)
ends_to types owner [] a older fs sizes under w state = (
  tokens_end types owner (a ∷ older) fs sizes under w a older refl state,
  left_lying types owner (a ∷ older) fs sizes under w a older refl state,
)
ends_to types owner (b ∷ rest) a older fs sizes under w state =
    let acts = rest ++ a ∷ older in
    let once = tokens_end types owner (b ∷ acts) fs sizes under w b acts refl state in
    let lies = left_lying types owner (b ∷ acts) fs sizes under w b acts refl state in
    let mid = closed_to (length b.base) w in
    let more = ends_to types owner rest a older (freed_frames b.token fs) sizes under mid once in
    let kept : length (lying_in mid) ≡ length mid.borrows = length_map open_of mid.borrows in
    let base = ap (λ (xs : Lying). length xs) lies in
    let one = fewer mid (length a.base) a.base more.1 in
    let two = fewer w (length b.base) b.base lies in
    let same : closed_to (length a.base) mid ≡ closed_to (length a.base) w =
    closed_both w (length a.base) (length b.base) (omega arith) two in (
      subst (λ n. IsIn types owner older (freed_of (rest ++ a ∷ []) (freed_frames b.token fs)) sizes under n) same more.0,
      subst (λ n. lying_in n ≡ a.base) same more.1,
    )

pub tokens_end_to : TokensEndTo
tokens_end_to types owner newest a older fs sizes under w state =
    ends_to types owner newest a older fs sizes under w state

-- ---- frames that wait for no token

others_stay_in : (z : ℕ) (tokens : List ℕ) → (IsAmong z tokens → ⊥) → others_of z tokens ≡ tokens
others_stay_in z [] none = refl
others_stay_in z (y ∷ ys) none =
    ap (λ (b : Bool). if b then others_of z ys else y ∷ others_of z ys) (ne_eqb z y (λ same. none (inl same)))
    ∙ ap (λ (rest : List ℕ). y ∷ rest) (others_stay_in z ys (λ among. none (inr among)))

freed_same : (z : ℕ) (h : Hold) → IsClear z h → freed z h ≡ h
freed_same z empty clear = refl
freed_same z ready clear = refl
freed_same z (shut y) clear = ap (λ (b : Bool). if b then ready else shut y) (ne_eqb z y clear)
freed_same z (watched []) clear = absurd clear
freed_same z (watched (y ∷ ys)) clear = ap left_watched (others_stay_in z (y ∷ ys) clear)

frame_same : (z : ℕ) (f : Frame) → ((x : ℕ) → IsClear z (f.hold x)) → freed_frame z f ≡ f
frame_same z f clear = λ i. record { hold = λ x. freed_same z (f.hold x) (clear x) i; type = f.type }

pub others_stay : OthersStay
others_stay z [] clear = refl
others_stay z (f ∷ fs) clear =
    ap (λ (g : Frame). g ∷ freed_frames z fs) (frame_same z f clear.0)
    ∙ ap (λ (gs : List Frame). f ∷ gs) (others_stay z fs clear.1)

-- ---- new frames

length_replicate : {A : Type 0} (n : ℕ) (x : A) → length (replicate n x) ≡ n
length_replicate zero x = refl
length_replicate (suc n) x = ap suc (length_replicate n x)

length_both : {A : Type 0} (xs ys : List A) → length (xs ++ ys) ≡ length xs + length ys
length_both [] ys = omega arith
length_both (x ∷ xs) ys = let rest = length_both xs ys in omega arith

count_new : (first : ℕ) (vs : Made) (others : ℕ)
    → length (new_names first (values_of vs) others) ≡ first + (length vs + others)
count_new first vs others =
    let some = map (λ (one : Value). Some one) (values_of vs) in
    let none = replicate others None in
    let a = length_both (replicate first None) (some ++ none) in
    let b = length_both some none in
    let c = length_replicate {A = Option Value} first None in
    let d = length_replicate {A = Option Value} others None in
    let e = length_map (λ (one : Value). Some one) (values_of vs) in
    let f = values_length vs in
    omega arith
  where
    values_length : (us : Made) → length (values_of us) ≡ length us
    values_length [] = refl
    values_length (u ∷ us) = ap suc (values_length us)

get_last : (xs : List ℕ) (n k : ℕ) → length xs ≡ k → slice_get (xs ++ n ∷ []) k ≡ Some n
get_last [] n zero many = refl
get_last [] n (suc k) many = absurd (omega arith)
get_last (x ∷ xs) n zero many = absurd (omega arith)
get_last (x ∷ xs) n (suc k) many = get_last xs n k (omega arith)

take_front : (xs : List ℕ) (n k : ℕ) → length xs ≡ k → take k (xs ++ n ∷ []) ≡ xs
take_front [] n zero many = refl
take_front [] n (suc k) many = absurd (omega arith)
take_front (x ∷ xs) n zero many = absurd (omega arith)
take_front (x ∷ xs) n (suc k) many = ap (λ (ys : List ℕ). x ∷ ys) (take_front xs n k (omega arith))

pub frames_have_room : FramesHaveRoom
frames_have_room sizes fs first others values many =
    let n = length (new_names first (values_of values) others) in
    let all = length_both sizes (n ∷ []) in
    let count = count_new first values others in (
      record {
        count = omega arith;
        names = n;
        there = get_last sizes n (length fs) many;
        room = omega arith;
      },
      take_front sizes n (length fs) many,
    )
