-- The borrow statements that are open round a step, and how they hold a variable.
use Rattle.std.specs.Prelude.{Bool, List, [], ◌∷◌, map, reverse, if◌then◌else◌}
use Rattle.au_syntax.specs.declared.types.Access.{Access}
use Rattle.au_syntax.specs.Plain.{Bytes}
use Rattle.au_lives.specs.Lives.{Hold, unlent, hidden, held_from}
use Rattle.au_lives.specs.Paths.{Around, lent, declared}
use Rattle.au_paths.specs.declared.borrows.OpenBorrow.{OpenBorrow}

-- an open borrow statement: the variable that it lends, how, and the reference to it
pub record Lending : Type 0 where
  pub variable : Bytes
  pub access : Access
  pub reference : Bytes

abbrev pub lending : Bytes → Access → Bytes → Lending
lending y a r = record { variable = y; access = a; reference = r }

-- what stands round a step inside open borrow statements; both lists have the innermost first
abbrev pub around : List Lending → List Around
around [] = []
around (one ∷ rest) = declared one.reference ∷ lent one.access one.variable ∷ around rest

-- How x is held inside open borrow statements: as what stands round says. Or its name is already that of
-- another variable, which a statement beside them declares.
abbrev pub held_within : Bytes → Bool → List Lending → Hold
held_within x hides lendings = held_from x (around lendings) (if hides then hidden else unlent)

-- what the code keeps of an open borrow statement
abbrev pub lending_said : OpenBorrow → Lending
lending_said one = lending one.variable.now one.access one.reference.now

-- statements that were opened one after another, as a list with the innermost first
abbrev pub innermost_first : List OpenBorrow → List Lending
innermost_first opened = map lending_said (reverse opened)
