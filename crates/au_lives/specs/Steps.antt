-- What a step does to a variable, by how the step finds it.
use Rattle.std.specs.Prelude.{◌==◌, if◌then◌else◌}
use Rattle.au_lives.specs.Mentions.{Counts}
use Rattle.au_lives.specs.Lives.{is_ordinary, is_quiet, is_untouched}
use Rattle.au_lives.specs.declared.tallies.Few.{Few}
use Rattle.au_lives.specs.declared.tallies.Few.TheVariants.{Zero, One}
use Rattle.au_lives.specs.declared.tallies.Tally.{Tally}
use Rattle.au_lives.specs.declared.steps.State.{State}
use Rattle.au_lives.specs.declared.steps.State.TheVariants.{Live, Read, Shut}
use Rattle.au_lives.specs.declared.steps.Verdict.{Verdict}
use Rattle.au_lives.specs.declared.steps.Verdict.TheVariants.{Stay, Spend, Bad}

-- In one step a variable is read-borrowed and looked at, or write-borrowed once, or consumed once; while it
-- is lent for reading it is only read-borrowed and looked at; and where it is consumed or lent for writing it
-- isn't met.
abbrev pub verdict_on : State → Counts → Verdict
verdict_on Live k = if is_ordinary k then (if k.consumed == 0 then Stay else Spend) else Bad
verdict_on Read k = if is_quiet k then Stay else Bad
verdict_on Shut k = if is_untouched k then Stay else Bad

-- the same as a table: a state, how often a variable is consumed, write-borrowed, read-borrowed and looked at
abbrev pub row_by : State → Few → Few → Few → Few → Verdict
row_by Live Zero Zero read looked = Stay
row_by Live Zero One Zero Zero = Stay
row_by Live One Zero Zero Zero = Spend
row_by Read Zero Zero read looked = Stay
row_by Shut Zero Zero Zero Zero = Stay
row_by state consumed written read looked = Bad

abbrev pub row : State → Tally → Verdict
row s c = row_by s c.consumed c.written c.read c.looked
