-- What the line of a refusal says of a variable that has no good life, behind the place.
use Rattle.std.specs.Prelude.{ℕ, List, [], ◌∷◌, ◌++◌, codes, decimal, flat_map}
use Rattle.au_lives.specs.declared.lives.LifeKind.{LifeKind}
use Rattle.au_lives.specs.declared.lives.LifeKind.TheVariants as kinds
use Rattle.au_program_lives.specs.declared.faults.LinearFault.{LinearFault}
use Rattle.au_program_lives.specs.declared.faults.LinearFault.TheVariants as fault

-- how a life is broken
abbrev pub kind_text : LifeKind → List ℕ
kind_text kinds.Unused = codes "unused"
kind_text kinds.Again = codes "met again"
kind_text kinds.Clash = codes "clash"
kind_text kinds.Borrowed = codes "borrowed"

-- a number behind another one
abbrev pub next_text : ℕ → List ℕ
next_text number = codes ", " ++ decimal number

-- numbers with commas between
abbrev pub numbers_text : List ℕ → List ℕ
numbers_text [] = []
numbers_text (first ∷ rest) = decimal first ++ flat_map next_text rest

-- how a path breaks a life, and which
abbrev pub path_text : LifeKind → List ℕ → List ℕ
path_text kind path = codes ": " ++ kind_text kind ++ codes ", path [" ++ numbers_text path ++ codes "]"

-- what is wrong; nothing is said of want of memory
abbrev pub linear_text : LinearFault → List ℕ
linear_text (fault.Life function variable at kind path) = codes "linear " ++ variable ++ path_text kind path
linear_text (fault.InLoop variable at) = codes "linear " ++ variable ++ codes ": consumed in a loop"
linear_text (fault.InPart variable at) = codes "linear " ++ variable ++ codes ": consumed in a part"
linear_text fault.Memory = []
