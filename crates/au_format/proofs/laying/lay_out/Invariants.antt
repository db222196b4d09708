-- The file is laid out up to the place.
use Rattle.std.proofs.Common.{◌-◌, length}
use Rattle.au_format.specs.Places.{HasLaid}
use Rattle.au_format.proofs.laying.lay_out.Given as goal

abbrev pub invariant-loop-place : goal.invariant-loop-place
invariant-loop-place l = HasLaid l.bytes l.tokens l.text.items l.place

abbrev pub decreases-loop-place : goal.decreases-loop-place
decreases-loop-place l = length l.bytes - l.place.done
