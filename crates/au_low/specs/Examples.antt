-- Programs of a few instructions, and what is seen of them.
use Rattle.std.specs.Prelude.{ℕ, zero, suc, true, false, List, [], ◌∷◌, Option, Some, None, codes}
use Rattle.au_effects.specs.Parts.{along}
use Rattle.au_effects.specs.Worlds.{Deed, Held}
use Rattle.au_low.specs.declared.code.Code.{Code}
use Rattle.au_low.specs.declared.code.Function.{Function}
use Rattle.au_low.specs.declared.code.LowType.{LowType}
use Rattle.au_low.specs.declared.endings.Ending.{Ending}
use Rattle.au_low.specs.declared.instructions.Instr.{Instr}
use Rattle.au_low.specs.Machines.{Low, Machine, Next, goes, writes, waits, exits, aborts, stuck, slots_of}
use Rattle.au_low.specs.Runs.{first, next, low_run}

-- a function without parameters, with three slots
abbrev pub plain : List Instr → Function
plain instrs = record { params = 0; slots = 3; code = instrs }

-- type 0 is linear, and type 1 isn't
abbrev pub two_types : List LowType
two_types = record { text = codes "M:L"; «module» = codes "M"; linear = true }
    ∷ record { text = codes "M:F"; «module» = codes "M"; linear = false } ∷ []

-- code of an entry without the root and other functions, with the texts "hi" and "no"
abbrev pub program : List Instr → List Function → Code
program instrs others =
    record {
      texts = codes "hi" ∷ codes "no" ∷ [];
      types = two_types;
      functions =
          plain instrs ∷ others;
      root = false;
    }

-- the same of an entry that takes the root
abbrev pub rooted : List Instr → Code
rooted instrs = record {
  texts = [];
  types = two_types;
  functions = record { params = 1; slots = 3; code = instrs } ∷ [];
  root = true;
}

-- the machine that an instruction leaves, if the run goes on
abbrev pub machine_in : Next → Option Machine
machine_in (goes m) = Some m
machine_in (writes bytes m) = Some m
machine_in waits = None
machine_in (exits success m) = None
machine_in (aborts fault m) = None
machine_in stuck = None

-- the machine after so many steps
abbrev pub machine_after : ℕ → Code → Option Machine → Option Machine
machine_after zero code m = m
machine_after (suc count) code m = machine_after count code (along m (λ m. machine_in (next code m)))

-- the operands, the slots, the open borrows and the deeds after so many steps
abbrev pub stack_after : ℕ → Code → Option (List Low)
stack_after count code = along (machine_after count code (first true code)) (λ m. Some m.operands)

abbrev pub slots_after : ℕ → Code → Option (List (Option Low))
slots_after count code = along (machine_after count code (first true code)) (λ m. Some (slots_of m))

abbrev pub births_after : ℕ → Code → Option (List (Held ℕ))
births_after count code = along (machine_after count code (first true code)) (λ m. Some m.world.births)

abbrev pub deeds_after : ℕ → Code → Option (List (Deed ℕ))
deeds_after count code = along (machine_after count code (first true code)) (λ m. Some m.world.deeds)

abbrev pub place_after : ℕ → Code → Option ℕ
place_after count code = along (machine_after count code (first true code)) (λ m. Some m.place)

-- the ending, the output and the number of steps of a run without input
abbrev pub ending_of : List Instr → ℕ → Ending
ending_of instrs limit = (low_run true (program instrs []) [] limit).ending

abbrev pub output_of : List Instr → ℕ → List ℕ
output_of instrs limit = (low_run true (program instrs []) [] limit).output

abbrev pub made_by : List Instr → ℕ → ℕ
made_by instrs limit = (low_run true (program instrs []) [] limit).made
