-- What matching answers.
use Rattle.std.specs.Prelude.{Option, Some, None}
use Rattle.au_matching.specs.Bindings.{Bindings}
use Rattle.au_matching.specs.declared.matching.Match.{Match}
use Rattle.au_matching.specs.declared.matching.Match.TheVariants.{Yes, No}

-- the list that was found
abbrev pub answered : Match → Option Bindings
answered (Yes s) = Some s
answered No = None

-- P of the list that was found, if one was
abbrev pub IfYes : Match → (Bindings → Type 0) → Type 0
IfYes (Yes s) P = P s
IfYes No P = Unit {0}

-- P, if none was found
abbrev pub IfNo : Match → Type 0 → Type 0
IfNo (Yes s) P = Unit {0}
IfNo No P = P
