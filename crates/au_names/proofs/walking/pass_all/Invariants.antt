use Rattle.std.proofs.Common.{◌≡◌, ◌+◌, ◌++◌, drop}
use Rattle.au_names.specs.Walks.{IsFreeFrom, rows_on, walk_over, written_all}
use Rattle.au_names.proofs.walking.pass_all.Given as goal

-- the rows that are there, and those that what is left gives, are all
abbrev pub invariant-loop-one : goal.invariant-loop-one
invariant-loop-one l = record {
  rows :
      l.heads ++ rows_on l.walk l.owner (written_all (drop l.one-index l.one-items))
      ≡ l.fn.heads ++ rows_on l.fn.walk l.owner (written_all l.one-items);
  walk :
      walk_over l.walk (written_all (drop l.one-index l.one-items))
      ≡ walk_over l.fn.walk (written_all l.one-items);
  free : IsFreeFrom l.walk.place l.walk.number l.heads;
  number : l.walk.number ≡ l.fn.walk.number + l.one-index;
}
