-- The two sides of a run: the world of the meaning and the machine, as two pictures of one world in which a
-- text is one that the code has.
use Rattle.std.specs.Prelude.{◌≡◌, ℕ, List, map, Option}
use Rattle.au_type_texts.specs.Types.{ClosedType}
use Rattle.au_effects.specs.Values as values
use Rattle.au_effects.specs.Values.{Base, Place, name_of, content_of}
use Rattle.au_effects.specs.Worlds as effects
use Rattle.au_effects.specs.Worlds.{Deed}
use Rattle.au_low.specs.declared.code.Code.{Code}
use Rattle.au_low.specs.Instructions.{text_bytes}
use Rattle.au_low.specs.Machines.{Low, LowWorld, Machine}
use Rattle.au_meaning.specs.Worlds.{Value, World, Borrow}
use Rattle.au_syntax.specs.Plain.{Bytes}
use Rattle.au_lowered.specs.Maps.{Change, value_to, deed_to, world_to}

-- code, the numbers that texts and types have in it, and the slot of each declaration of its program
pub record Coding : Type 0 where
  pub code : Code
  pub text : Bytes → ℕ
  pub of : ClosedType → ℕ
  pub slot : ℕ → ℕ

-- the names of a frame, and its slots
abbrev pub Named : Type 0
Named = List (Option Value)

abbrev pub Slotted : Type 0
Slotted = List (Option Low)

-- The names of the frames below, and of the one that runs; and the borrows that this one has open, the newest
-- first.
pub record Names : Type 0 where
  pub below : List Named
  pub own : Named
  pub lent : List Borrow

-- the same of the machine, where a borrow is its number
pub record Slots : Type 0 where
  pub below : List Slotted
  pub own : Slotted
  pub lent : List ℕ

-- ---- values

-- the place of the machine for one of the meaning: names become slots
abbrev pub base_slotted : (ℕ → ℕ) → Base → Base
base_slotted slot (name_of frame name) = name_of frame (slot name)
base_slotted slot (content_of birth) = content_of birth

abbrev pub place_slotted : (ℕ → ℕ) → Place → Place
place_slotted slot place = record { base = base_slotted slot place.base; path = place.path }

module _ (by : Coding) where
  -- a text that the code has under its number
  pub record Word : Type 0 where
    pub bytes : Bytes
    pub known : text_bytes by.code (by.text bytes) ≡ bytes

  -- a value in which texts are such
  abbrev pub Both : Type 0
  Both = values.Value Word

  -- what texts and places are to the meaning, and to the machine
  abbrev pub as_meant : Change Word Bytes
  as_meant = record { text = λ w. w.bytes; place = λ place. place }

  abbrev pub as_ran : Change Word ℕ
  as_ran = record { text = λ w. by.text w.bytes; place = place_slotted by.slot }

  -- the value of the meaning, and that of the machine
  abbrev pub meant : Both → Value
  meant value = value_to as_meant value

  abbrev pub ran : Both → Low
  ran value = value_to as_ran value

  abbrev pub all_meant : List Both → List Value
  all_meant values = map meant values

  abbrev pub all_ran : List Both → List Low
  all_ran values = map ran values

  -- What both have besides frames and open borrows: births, the number of the next borrow, and deeds; the
  -- output, and the bytes of the input that are left.
  pub record Common : Type 0 where
    pub store : effects.World Word ClosedType
    pub output : List ℕ
    pub left : List ℕ

  -- the world of the meaning, with these frames and open borrows, and that of the machine, with these slots
  abbrev pub source : List Named → List Borrow → Common → World
  source frames lent c = record {
    store = world_to as_meant (λ (t : ClosedType). t) frames c.store;
    borrows = lent;
    output = c.output;
    left = c.left;
  }

  abbrev pub lower : List Slotted → Common → LowWorld
  lower frames c = world_to as_ran by.of frames c.store

-- the events of the machine for those of the meaning
abbrev pub told : Coding → World → List (Deed ℕ)
told by w = map (deed_to by.of) w.store.deeds

-- where the machine is
pub record Spot : Type 0 where
  pub machine : Machine
  pub output : List ℕ
  pub left : List ℕ
