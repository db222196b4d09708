-- Names wait for tokens that are active: so a token that begins is new to them, and one that ends leaves the others.
use Rattle.std.proofs.Common.{◌≡◌, ◌⊎◌, inl, inr, ℕ, ◌==◌, Bool, true, false, List, [], ◌∷◌, refl, ap, ap₂, ◌∙◌}
use Rattle.std.proofs.Common.{if◌then◌else◌}
use Rattle.std.proofs.lemmas.Bool.{eqb-true}
use Rattle.au_base.proofs.BoolLemmas.{never_both}
use Rattle.au_types.specs.Types.{Meaning}
use Rattle.au_memory.specs.Forests as forest
use Rattle.au_memory.specs.Forests.{Hold, empty, shut, watched}
use Rattle.au_lending.specs.Ending.{freed, left_watched, others_of}
use Rattle.au_borrows.specs.Orders.{Act, is_active}
use Rattle.au_running_judgements.specs.Frames.{Frame}
use Rattle.au_running_judgements.specs.Closing.{freed_frame, freed_frames}
use Rattle.au_running_judgements.specs.Known.{AreActive}
use Rattle.au_running_judgements.specs.Lives.{Standing}
use Rattle.au_running_judgements.specs.Held.{AllHeld, ArePermitted, IsPermitted, Permits}
use Rattle.au_sound_expressions.specs.Safe.{AllWait, Stands, Waits}
use Rattle.au_sound_expressions.proofs.HoldLemmas.{waits_put}

-- ---- a token that isn't active

others_stay : (active : ℕ → Bool) (z : ℕ) (zs : List ℕ) → AreActive active zs → active z ≡ false → others_of z zs ≡ zs
others_stay active z [] are off = refl
others_stay active z (y ∷ zs) are off = by (z == y) refl (others_stay active z zs are.1 off)
  where
    by : (b : Bool) → (z == y) ≡ b → others_of z zs ≡ zs
        → (if b then others_of z zs else y ∷ others_of z zs) ≡ y ∷ zs
    by true same rest = never_both (active z) (ap active (eqb-true z y same) ∙ are.0) off
    by false same rest = ap (λ (xs : List ℕ). y ∷ xs) rest

-- no name waits for it
pub fresh : (active : ℕ → Bool) (z : ℕ) (h : Hold) → Waits active h → active z ≡ false → freed z h ≡ h
fresh active z empty waits off = refl
fresh active z forest.ready waits off = refl
fresh active z (shut y) waits off = by (z == y) refl
  where
    by : (b : Bool) → (z == y) ≡ b → (if b then forest.ready else shut y) ≡ shut y
    by true same = never_both (active z) (ap active (eqb-true z y same) ∙ waits) off
    by false same = refl
fresh active z (watched []) waits off = absurd waits
fresh active z (watched (y ∷ zs)) waits off = ap left_watched (others_stay active z (y ∷ zs) waits off)

frame_stays : (active : ℕ → Bool) (z : ℕ) (f : Frame) → ((k : ℕ) → Waits active (f.hold k)) → active z ≡ false
    → freed_frame z f ≡ f
frame_stays active z f waits off =
    let same : (k : ℕ) → freed z (f.hold k) ≡ f.hold k = λ k. fresh active z (f.hold k) (waits k) off in
    λ i. record { hold = λ k. same k i; type = f.type }

pub frames_stay : {V W : Type 0} (permits : Permits V W) (ways : List V) (active : ℕ → Bool) (z : ℕ)
    (fs : List Frame) → AllWait permits ways active fs → active z ≡ false → freed_frames z fs ≡ fs
frames_stay permits ways active z [] waits off = refl
frames_stay permits [] active z (f ∷ fs) waits off = absurd waits
frames_stay permits (way ∷ ways) active z (f ∷ fs) waits off =
    ap₂ (λ (g : Frame) (gs : List Frame). g ∷ gs) (frame_stays active z f waits.0.0 off)
    (frames_stay permits ways active z fs waits.1 off)

-- ---- more tokens

pub are_more : (one two : ℕ → Bool) → ((z : ℕ) → one z ≡ true → two z ≡ true) → (zs : List ℕ) → AreActive one zs
    → AreActive two zs
are_more one two more [] are = tt
are_more one two more (z ∷ zs) are = (more z are.0, are_more one two more zs are.1)

pub waits_more : (one two : ℕ → Bool) → ((z : ℕ) → one z ≡ true → two z ≡ true) → (h : Hold) → Waits one h
    → Waits two h
waits_more one two more empty waits = tt
waits_more one two more forest.ready waits = tt
waits_more one two more (shut z) waits = more z waits
waits_more one two more (watched []) waits = absurd waits
waits_more one two more (watched (z ∷ zs)) waits = are_more one two more (z ∷ zs) waits

pub all_more : {V W : Type 0} (permits : Permits V W) (ways : List V) (one two : ℕ → Bool)
    → ((z : ℕ) → one z ≡ true → two z ≡ true) → (fs : List Frame) → AllWait permits ways one fs
    → AllWait permits ways two fs
all_more permits [] one two more [] waits = tt
all_more permits [] one two more (f ∷ fs) waits = absurd waits
all_more permits (way ∷ ways) one two more [] waits = absurd waits
all_more permits (way ∷ ways) one two more (f ∷ fs) waits = (
  (λ k. waits_more one two more (f.hold k) (waits.0.0 k), waits.0.1),
  all_more permits ways one two more fs waits.1,
)

-- one token more is active
pub active_more : (a : Act) (older : List Act) (z : ℕ) → is_active older z ≡ true → is_active (a ∷ older) z ≡ true
active_more a older z is = by (a.token == z)
  where
    by : (b : Bool) → (if b then true else is_active older z) ≡ true
    by true = refl
    by false = is

-- ---- the newest token ends

left_waits : (active : ℕ → Bool) (zs : List ℕ) → AreActive active zs → Waits active (left_watched zs)
left_waits active [] are = tt
left_waits active (z ∷ zs) are = are

others_active : (a : Act) (older : List Act) (zs : List ℕ) → AreActive (is_active (a ∷ older)) zs
    → AreActive (is_active older) (others_of a.token zs)
others_active a older [] are = tt
others_active a older (z ∷ zs) are = by (a.token == z) are.0 (others_active a older zs are.1)
  where
    by : (b : Bool) → (if b then true else is_active older z) ≡ true → AreActive (is_active older)
        (others_of a.token zs)
        → AreActive (is_active older) (if b then others_of a.token zs else z ∷ others_of a.token zs)
    by true is rest = rest
    by false is rest = (is, rest)

pub waits_freed : (a : Act) (older : List Act) (h : Hold) → Waits (is_active (a ∷ older)) h
    → Waits (is_active older) (freed a.token h)
waits_freed a older empty waits = tt
waits_freed a older forest.ready waits = tt
waits_freed a older (shut y) waits = by (a.token == y) waits
  where
    by : (b : Bool) → (if b then true else is_active older y) ≡ true
        → Waits (is_active older) (if b then forest.ready else shut y)
    by true is = tt
    by false is = is
waits_freed a older (watched []) waits = absurd waits
waits_freed a older (watched (y ∷ zs)) waits =
    left_waits (is_active older) (others_of a.token (y ∷ zs)) (others_active a older (y ∷ zs) waits)

-- ---- what names hold

-- in frames whose names wait, they hold what they may
pub all_held : {V W : Type 0} (permits : Permits V W) (ways : List V) (active : ℕ → Bool) (fs : List Frame)
    → AllWait permits ways active fs → AllHeld permits ways fs
all_held permits [] active [] waits = tt
all_held permits [] active (f ∷ fs) waits = absurd waits
all_held permits (way ∷ ways) active [] waits = absurd waits
all_held permits (way ∷ ways) active (f ∷ fs) waits = (waits.0.1, all_held permits ways active fs waits.1)

-- names of which more are empty hold what they may
pub held_fewer : {V W : Type 0} (permits : Permits V W) (way : V) (h g : Standing) (names : ℕ → Meaning)
    → ((k : ℕ) → h k ≡ empty → g k ≡ empty) → ArePermitted permits way h names → ArePermitted permits way g names
held_fewer permits way h g names fewer held k = by (held k)
  where
    by : (h k ≡ empty) ⊎ IsPermitted permits way (names k) → (g k ≡ empty) ⊎ IsPermitted permits way (names k)
    by (inl is) = inl (fewer k is)
    by (inr may) = inr may

-- a name that stands otherwise is empty where it was
pub stands_put : {V W : Type 0} (permits : Permits V W) (way : V) (active : ℕ → Bool) (n : ℕ) (a : Hold)
    (h : Standing) (names : ℕ → Meaning) → Waits active a → (h n ≡ empty → a ≡ empty)
    → Stands permits way active h names → Stands permits way active (λ k. if n == k then a else h k) names
stands_put permits way active n a h names own fewer stands = (
  waits_put active n a h own stands.0,
  held_fewer permits way h (λ k. if n == k then a else h k) names empties stands.1,
)
  where
    empties : (k : ℕ) → h k ≡ empty → (if n == k then a else h k) ≡ empty
    empties k is = by (n == k) refl
      where
        by : (b : Bool) → (n == k) ≡ b → (if b then a else h k) ≡ empty
        by true same = fewer (ap h (eqb-true n k same) ∙ is)
        by false differ = is
