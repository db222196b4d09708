use Rattle.std.proofs.Common.{◌≡◌, ◌++◌, drop}
use Rattle.au_modules.specs.Slots.{modules}
use Rattle.au_names.specs.HeadsOf.{rows_from}
use Rattle.au_names.specs.Walks.{IsFreeFrom}
use Rattle.au_names.proofs.walking.heads_of.Given as goal

-- the rows that are there, and those of the modules that are left, are all
abbrev pub invariant-loop-place : goal.invariant-loop-place
invariant-loop-place l = record {
  rows : l.heads ++ rows_from l.place (drop l.place (modules l.program)) ≡ rows_from 0 (modules l.program);
  free : IsFreeFrom l.place 0 l.heads;
}
