use Rattle.std.proofs.Common.{◌≡◌, length}
use Rattle.au_syntax.specs.Plain.{Bytes}
use Rattle.au_clearing.specs.Deals.{absorbed, stepped}
use Rattle.au_clearing.specs.Tables.{find}
use Rattle.au_clearing.proofs.combining.absorb_step.Given as goal

-- what is left, absorbed by what is done, is the whole, absorbed
abbrev pub invariant-loop-name : goal.invariant-loop-name
invariant-loop-name l =
    (x : Bytes) → absorbed (stepped l.in_loop l.returns) l.rest (find x l.left) (find x l.done)
    ≡ absorbed (stepped l.in_loop l.returns) l.rest (find x l.initial.left) (find x l.initial.done)

abbrev pub decreases-loop-name : goal.decreases-loop-name
decreases-loop-name l = length l.left
