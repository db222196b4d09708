-- The frame that runs, where the machine and the meaning are in it, and what it means that they agree.
use Rattle.std.specs.Prelude.{◌≡◌, ℕ, ◌≤◌, Bool, true, false, List, [], ◌∷◌, ◌++◌, length, map, Option}
use Rattle.std.specs.Prelude.{slice_set}
use Rattle.au_low.specs.Machines.{Low, Machine, Waiting}
use Rattle.au_meaning.specs.Worlds.{Value, World, Borrow}
use Rattle.au_lowered.specs.Scopes.{Entry, Level, Levels, Held, Only}
use Rattle.au_lowered.specs.Sides.{Coding, Named, Slotted, Names, Slots, Both, Common, Spot, all_ran, source}
use Rattle.au_lowered.specs.Sides.{lower}

-- A frame that runs: its function, the frames that wait for it, what is in scope in each, and the borrows
-- that they have open, the newest first.
pub record Frame (by : Coding) : Type 0 where
  pub function : ℕ
  pub waiting : List Waiting
  pub levels : List (Level by)
  pub level : length levels ≡ length waiting
  pub lent : List Borrow

module _ (by : Coding) (f : Frame by) where
  -- the world of the meaning where names are these
  abbrev pub world : Names → Common by → World
  world names c = source by (names.below ++ names.own ∷ []) (names.lent ++ f.lent) c

  -- the machine where slots are these
  abbrev pub machine : ℕ → List (Both by) → Slots → Common by → Machine
  machine place operands slots c = record {
    function = f.function;
    place = place;
    operands = all_ran by operands;
    open_borrows = slots.lent;
    waiting = f.waiting;
    world = lower by (slots.below ++ slots.own ∷ []) c;
  }

  abbrev pub spot : ℕ → List (Both by) → Slots → Common by → Spot
  spot place operands slots c =
      record { machine = machine place operands slots c; output = c.output; left = c.left }

-- a name of the running frame is another value, and so is a slot
abbrev pub name_put : ℕ → Option Value → Names → Names
name_put n value names = record names { own = slice_set names.own n value }

abbrev pub slot_put : ℕ → Option Low → Slots → Slots
slot_put n value slots = record slots { own = slice_set slots.own n value }

-- ---- what agrees

-- How many names a frame has, how many borrow statements stand round a place of it, and whether more borrows
-- may be open there.
pub record Wide : Type 0 where
  pub count : ℕ
  pub around : ℕ
  pub opens : Bool

-- between statements none is open but those of borrow statements
abbrev pub resting : ℕ → ℕ → Wide
resting count around = record { count = count; around = around; opens = false }

-- so many borrows are open
abbrev pub Since : Bool → ℕ → ℕ → Type 0
Since false around many = many ≡ around
Since true around many = around ≤ many

module _ (by : Coding) (f : Frame by) where
  -- the frames below hold what is in scope in them, and the same borrows are open
  pub record Rest (below : List Named) (lent : List Borrow) (below_low : List Slotted) (lent_low : List ℕ)
      : Type 0 where
    pub levels : Levels by f.levels below below_low
    pub lent_are : lent_low ≡ map (λ (one : Borrow). one.number) lent

  abbrev pub Rest_of : Names → Slots → Type 0
  Rest_of names slots = Rest names.below names.lent slots.below slots.lent

  module _ (wide : Wide) (room : ℕ) where
    -- The running frame has so many names and slots and holds what is in scope and nothing else, so do those
    -- below, and so many borrows are open.
    pub record Agree (scope : List (Entry by)) (names : Names) (slots : Slots) : Type 0 where
      pub names_are : length names.own ≡ wide.count
      pub slots_are : length slots.own ≡ room
      pub held : Held by scope names.own slots.own
      pub only : Only by scope names.own
      pub rest : Rest_of names slots
      pub since : Since wide.opens wide.around (length names.lent)
