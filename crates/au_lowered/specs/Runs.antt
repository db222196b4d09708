-- A run of the machine that leads from one place to another while the meaning makes ticks, and what it
-- means that the machine does what an action of the meaning does.
use Rattle.std.specs.Prelude.{◌≡◌, ℕ, ◌+◌, ◌*◌, ◌≤◌, List, ◌++◌}
use Rattle.au_effects.specs.Worlds.{Deed}
use Rattle.au_low.specs.declared.code.Code.{Code}
use Rattle.au_low.specs.declared.endings.Ending.{Ending}
use Rattle.au_low.specs.declared.endings.Ending.TheVariants.{Exit, Abort, Steps}
use Rattle.au_low.specs.Machines.{Next, goes, writes, waits, exits, aborts, stuck}
use Rattle.au_low.specs.Runs.{Outcome, Run, exec, abort_kind}
use Rattle.au_meaning.specs.Ticks as action
use Rattle.au_meaning.specs.Ticks.{Out}
use Rattle.au_meaning.specs.Worlds.{World, Fault}
use Rattle.au_lowered.specs.Maps.{fault_to}
use Rattle.au_lowered.specs.Sides.{Coding, Names, Slots, Common, Spot, told}
use Rattle.au_lowered.specs.Frames.{Frame, world}

-- Where a run leads: it goes on somewhere, or it has ended, or nothing is said.
pub data Reach : Type 0 where
  at : Spot → Reach
  ended : Ending → (output left : List ℕ) → List (Deed ℕ) → Reach
  lost : Reach

-- where an instruction leads
abbrev pub reached : Spot → Next → Reach
reached s (goes m) = at (record s { machine = m })
reached s (writes bytes m) = at (record { machine = m; output = s.output ++ bytes; left = s.left })
reached s waits = lost
reached s (exits success m) = ended (Exit success) s.output s.left m.world.deeds
reached s (aborts fault m) = ended (Abort (abort_kind fault)) s.output s.left m.world.deeds
reached s stuck = lost

-- a run that is somewhere, after so many steps
abbrev pub run_at : Spot → ℕ → Run
run_at s made = record { machine = s.machine; output = s.output; left = s.left; made = made }

-- what is seen of a run that has led there after so many steps, with so many left
abbrev pub Seen : Code → Reach → ℕ → ℕ → Outcome → Type 0
Seen code (at s) steps made outcome = outcome ≡ exec code steps (run_at s made)
Seen code (ended ending output left deeds) steps made outcome =
    outcome ≡ record { ending = ending; output = output; left = left; events = deeds; made = made }
Seen code lost steps made outcome = Unit {0}

-- From a place a run leads somewhere, while of n ticks all but l are made: it makes as many steps or more,
-- and eight times as many or fewer, with some to spare.
pub record Leads (code : Code) (s : Spot) (n : ℕ) (r : Reach) (l spare : ℕ) : Type 0 where
  pub steps : ℕ
  pub least : n ≤ l + steps
  pub most : steps + spare + 8 * l ≤ 8 * n
  pub by : (more made : ℕ) → Seen code r more (made + steps) (exec code (steps + more) (run_at s made))

-- From a place a run that is cut off shows what the meaning does that was cut off after n ticks.
pub record CutOff (by : Coding) (s : Spot) (n : ℕ) (w : World) : Type 0 where
  pub steps : ℕ
  pub least : n ≤ steps
  pub most : steps ≤ 8 * n
  pub cuts : (made : ℕ) → exec by.code steps (run_at s made) ≡ record {
    ending = Steps;
    output = w.output;
    left = w.left;
    events = told by w;
    made = made + steps;
  }

-- an abort in a world
abbrev pub aborted : Coding → Fault → World → Reach
aborted by fault w = ended (Abort (abort_kind (fault_to by.text fault))) w.output w.left (told by w)

-- What a run is to lead to where an action gives something that is the picture of a B: what the picture is,
-- what names and slots hold then, and where the machine is.
pub record Aim (by : Coding) (A B : Type 0) : Type 1 where
  pub view : B → A
  pub holds : B → Names → Slots → Type 0
  pub target : B → Slots → Common by → Reach

-- the same, where the machine is somewhere
abbrev pub aim_at : {by : Coding} {A B : Type 0} → (B → A) → (B → Names → Slots → Type 0)
    → (B → Slots → Common by → Spot) → Aim by A B
aim_at view holds spot = record { view = view; holds = holds; target = λ b slots c. at (spot b slots c) }

module _ (by : Coding) (f : Frame by) {A B : Type 0} (aim : Aim by A B) where
  -- An action gave something: it is the picture of something, in a world that is one, and the run leads
  -- there.
  pub record Given (spare : ℕ) (s : Spot) (n : ℕ) (a : A) (w : World) (l : ℕ) : Type 0 where
    pub b : B
    pub names : Names
    pub slots : Slots
    pub c : Common by
    pub is : a ≡ aim.view b
    pub in_world : w ≡ world by f names c
    pub held : aim.holds b names slots
    pub leads : Leads by.code s n (aim.target b slots c) l spare

  -- A run does what an action does that had n ticks: by what the action came to. Nothing is said where no
  -- rule applies.
  abbrev pub Follows : ℕ → Spot → ℕ → Out A → Type 0
  Follows spare s n (action.gives a w l) = Given spare s n a w l
  Follows spare s n (action.aborts fault w l) = Leads by.code s n (aborted by fault w) l 0
  Follows spare s n (action.cut w) = CutOff by s n w
  Follows spare s n (action.no_rule w l) = Unit {0}

  pub record Sim (spare : ℕ) (s : Spot) (n : ℕ) (out : Out A) : Type 0 where
    pub follows : Follows spare s n out
