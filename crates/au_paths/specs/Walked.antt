-- The variable that is walked for, as a step sees it.
use Rattle.std.specs.Prelude.{List}
use Rattle.au_lives.specs.Lives.{Hold}
use Rattle.au_paths.specs.declared.walks.Walked.{Walked}
use Rattle.au_paths.specs.Lendings.{Lending, held_within}

-- how it is held there inside open borrow statements
abbrev pub held_in : Walked → List Lending → Hold
held_in of lendings = held_within of.name.now of.hidden lendings
