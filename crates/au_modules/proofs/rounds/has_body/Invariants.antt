use Rattle.std.proofs.Common.{◌≡◌, drop}
use Rattle.std.specs.List.{list_any}
use Rattle.au_modules.specs.Programs as spec
use Rattle.au_modules.proofs.rounds.has_body.Given as goal

-- what is left decides
abbrev pub invariant-loop-one : goal.invariant-loop-one
invariant-loop-one l = list_any (spec.is_body_of l.name) (drop l.one-index l.one-items)
    ≡ list_any (spec.is_body_of l.name) l.one-items
