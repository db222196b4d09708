use Rattle.std.proofs.Common.{◌≡◌, ◌||◌, Bool, drop}
use Rattle.au_syntax.specs.Plain.{Bytes}
use Rattle.au_clearing.specs.Seen.{seen_expressions, seen_arguments}
use Rattle.au_clearing.specs.Touches.{both, touched_in_all, touched_in_arguments}
use Rattle.au_clearing.specs.Deals.{touch_in}
use Rattle.au_clearing.proofs.mentions.+touched.Given as goal

-- what is met and what is left are all
abbrev pub invariant-touch_all-loop-one : goal.invariant-touch_all-loop-one
invariant-touch_all-loop-one g l =
    (x : Bytes) (free : Bool) →
    both (touch_in l.table x free)
    (touched_in_all x (free || l.looked) l.part (seen_expressions g.P.Phase (drop l.one-index l.one-items)))
    ≡ both (touch_in l.initial.table x free)
    (touched_in_all x (free || l.looked) l.part (seen_expressions g.P.Phase l.one-items))

abbrev pub invariant-touch_arguments-loop-one : goal.invariant-touch_arguments-loop-one
invariant-touch_arguments-loop-one g l =
    (x : Bytes) (free : Bool) →
    both (touch_in l.table x free)
    (touched_in_arguments x (free || l.looked) l.part (seen_arguments g.P.Phase (drop l.one-index l.one-items)))
    ≡ both (touch_in l.initial.table x free)
    (touched_in_arguments x (free || l.looked) l.part (seen_arguments g.P.Phase l.one-items))
