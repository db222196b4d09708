use Rattle.std.proofs.Common.{◌≡◌, ◌++◌, drop}
use Rattle.std.specs.List.{flat_map}
use Rattle.au_formed.specs.Said.{spots_said}
use Rattle.au_explain.specs.Programs.{spot_lives}
use Rattle.au_modules.specs.Slots as slots
use Rattle.au_explain.proofs.programs.push_spots.Given as goal

-- what is put and what is left are all
abbrev pub invariant-loop-one : goal.invariant-loop-one
invariant-loop-one l =
    l.made.items ++ flat_map (spot_lives (slots.modules l.resolved)) (spots_said (drop l.one-index l.one-items))
    ≡ l.fn.made.items ++ flat_map (spot_lives (slots.modules l.resolved)) (spots_said l.one-items)
