-- How a step of a path finds a variable, and what the step does to the fate of the variable.
use Rattle.std.specs.Prelude.{◌≡◌, Bool, true, false}
use Rattle.au_lives.specs.declared.lives.LifeKind.{LifeKind}
use Rattle.au_lives.specs.Lives.{Hold, unlent, read_lent, write_lent, hidden, Fate, going, broken}
use Rattle.au_lives.specs.declared.steps.State.{State}
use Rattle.au_lives.specs.declared.steps.State.TheVariants.{Live, Read, Shut}
use Rattle.au_lives.specs.declared.steps.Verdict.{Verdict}
use Rattle.au_lives.specs.declared.steps.Verdict.TheVariants.{Stay, Spend, Bad}

-- by how open borrow statements hold it, and whether it is consumed
abbrev pub state_of : Hold → Bool → State
state_of h true = Shut
state_of unlent false = Live
state_of read_lent false = Read
state_of write_lent false = Shut
state_of hidden false = Live

-- the variable goes on as it was, or consumed, or its life is broken
abbrev pub Leads : Verdict → Bool → Fate → Type 0
Leads Stay spent f = f ≡ going spent
Leads Spend spent f = f ≡ going true
Leads Bad spent f = (kind : LifeKind) × (f ≡ broken kind)
