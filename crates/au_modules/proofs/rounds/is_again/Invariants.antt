use Rattle.std.proofs.Common.{◌≡◌, drop}
use Rattle.std.specs.List.{list_any}
use Rattle.au_modules.specs.Programs as spec
use Rattle.au_modules.proofs.rounds.is_again.Given as goal

-- what is left decides
abbrev pub invariant-loop-earlier : goal.invariant-loop-earlier
invariant-loop-earlier l = list_any (spec.clashes l.one) (drop l.earlier-index l.before)
    ≡ list_any (spec.clashes l.one) l.before
