use Rattle.std.proofs.Common.{◌+◌, length}
use Rattle.au_cells.proofs.paths.+replaced.Given as goal

-- the path becomes shorter
abbrev pub decreases-replaced : goal.decreases-replaced
decreases-replaced l = length l.path.now + length l.path.now

abbrev pub decreases-replace_field : goal.decreases-replace_field
decreases-replace_field l = length l.rest.now + length l.rest.now + 1
