use Rattle.std.proofs.Common.{◌≡◌, ◌+◌, All, length}
use Rattle.austral_cases.specs.Endings.{Holds}
use Rattle.austral_cases.proofs.running.run_cases.Given as goal

-- Each case so far has passed or failed, and where none failed all hold.
abbrev pub invariant-loop-case : goal.invariant-loop-case
invariant-loop-case g l =
    (goal.iterator-loop-case g).can_next l.case-iterator
    × (goal.iterator-loop-case g).is_finite l.case-iterator
    × (l.tally.passed + l.tally.failed ≡ length l.yielded)
    × (l.tally.failed ≡ 0 → All Holds l.yielded)
