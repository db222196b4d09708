use Rattle.std.proofs.Common.{◌≡◌, length}
use Rattle.au_syntax.specs.Plain.{Bytes}
use Rattle.au_clearing.specs.Deals.{settled}
use Rattle.au_clearing.specs.Tables.{find}
use Rattle.au_clearing.proofs.CombiningLemmas.{prefer, settling}
use Rattle.au_clearing.proofs.combining.settle.Given as goal

-- what is left, settled, or else what is done, is the whole, settled
abbrev pub invariant-loop-name : goal.invariant-loop-name
invariant-loop-name l =
    (x : Bytes) → prefer (settling l.way l.rest l.one x (find x l.left)) (find x l.done)
    ≡ settled l.way l.rest (find x l.one) (find x l.initial.left)

abbrev pub decreases-loop-name : goal.decreases-loop-name
decreases-loop-name l = length l.left
