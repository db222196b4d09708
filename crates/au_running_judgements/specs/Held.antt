-- What names may hold while a program runs, as far as their types tell: in each world in which a run may be
-- cut off, the names of each frame that hold something are of types that are permitted there.
use Rattle.std.specs.Prelude.{◌≡◌, ◌⊎◌, ℕ, List, [], ◌∷◌, ◌++◌, Option}
use Rattle.au_types.specs.Types.{Meaning}
use Rattle.au_type_texts.specs.Types.{ClosedType}
use Rattle.au_memory.specs.Forests.{Hold, Made, empty}
use Rattle.au_memory.specs.Loans.{Types}
use Rattle.au_borrows.specs.Orders.{Act}
use Rattle.au_meaning.specs.Ticks.{Out}
use Rattle.au_meaning.specs.Worlds.{World}
use Rattle.au_safe_steps.specs.Frames.{Frame}
use Rattle.au_safe_steps.specs.Good.{GoodBy, IsCutWell, IsIn}

-- What is permitted: each permit is for names of the functions that are called in one way, and for one type.
pub record Permits (V W : Type 0) : Type 0 where
  pub way : W → V
  pub type : W → Meaning

module _ {V W : Type 0} (permits : Permits V W) where
  -- names of a function that is called so may hold values of a type
  abbrev pub IsPermitted : V → Meaning → Type 0
  IsPermitted key t = (one : W) × (permits.way one ≡ key) × (permits.type one ≡ t)

  -- whatever names hold that stand so and have these types is of a permitted type
  abbrev pub ArePermitted : V → (ℕ → Hold) → (ℕ → Meaning) → Type 0
  ArePermitted key hold names = (k : ℕ) → (hold k ≡ empty) ⊎ IsPermitted key (names k)

  -- So is it in frames, the newest first, of functions that were called in these ways.
  abbrev pub AllHeld : List V → List Frame → Type 0
  AllHeld [] [] = Unit {0}
  AllHeld (way ∷ ways) (f ∷ fs) = ArePermitted way f.hold f.type × AllHeld ways fs
  AllHeld ways fs = ⊥

module _ (types : Types) (owner : ClosedType → Option (List ℕ)) {V W : Type 0} (permits : Permits V W)
    (ways : List V) where
  -- The store of a world is as it should be, for some types of the names of its frames, and what they hold is
  -- permitted in the ways in which the functions of the frames were called. The oldest frames are those of
  -- functions that were called in these ways.
  pub record HoldsPermitted (w : World) : Type 0 where
    pub newer : List V
    pub acts : List Act
    pub frames : List Frame
    pub sizes : List ℕ
    pub under : Made
    pub state : IsIn types owner acts frames sizes under w
    pub held : AllHeld permits (newer ++ ways) frames

  -- A world is so where its run is cut off, and else as it should be there.
  abbrev pub IsCutSo : World → Type 0
  IsCutSo w = IsCutWell owner w × HoldsPermitted w

  -- An action comes to something good, and where it is cut off, names hold what they may.
  abbrev pub GoodHeld : {A : Type 0} → (A → World → Type 0) → Out A → Type 0
  GoodHeld q out = GoodBy owner IsCutSo q out
