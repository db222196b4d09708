use Rattle.std.proofs.Common.{◌≡◌, ◌≤◌, length, take}
use Rattle.au_lives.specs.Trimming.{without_zeros}
use Rattle.au_linear.proofs.judging.kept.Given as goal

abbrev pub invariant-loop-count : goal.invariant-loop-count
invariant-loop-count l = record {
  within : l.count ≤ length l.path.items;
  zeros : without_zeros (take l.count l.path.items) ≡ without_zeros l.path.items;
}

abbrev pub decreases-loop-count : goal.decreases-loop-count
decreases-loop-count l = l.count
