use Rattle.std.proofs.Common.{◌≡◌, ◌≤◌, ◌+◌, drop, map}
use Rattle.std.specs.List.{count_by}
use Rattle.std.specs.Option.{option_copied}
use Rattle.au_judgements.specs.Steps.{is_meant}
use Rattle.au_sights.specs.Sights.{case_said}
use Rattle.au_judgements.proofs.arms.times_meant.Given as goal

-- as many of the names so far are that of the case, and the others are counted next
abbrev pub invariant-loop-meant : goal.invariant-loop-meant
invariant-loop-meant l = record {
  few : l.count ≤ l.meant-index;
  rest : l.count + count_by (is_meant (case_said l.one)) (map option_copied (drop l.meant-index l.all_meant))
      ≡ count_by (is_meant (case_said l.one)) (map option_copied l.all_meant);
}
