-- Shipped calls that have no other at the truth values.
use Rattle.std.proofs.Common.{◌≡◌, refl}
use Rattle.std.specs.Prelude.{Option, None, []}
use Rattle.au_base.specs.declared.kinds.IntKind.{IntKind}
use Rattle.au_shipped.specs.declared.prims.ShippedCall.{ShippedCall}
use Rattle.au_shipped.specs.declared.prims.ShippedCall.TheVariants as calls
use Rattle.au_shipped.specs.Calls.{prim_of}
use Rattle.au_syntax.specs.Plain.{Bytes}
use Rattle.au_closing.specs.Leading.{at_truth}

pub at_truth_other : (call : ShippedCall) → (call ≡ calls.PrintText → ⊥) → (call ≡ calls.PrintLnText → ⊥)
    → call ≡ at_truth call
at_truth_other calls.PrintText one other = absurd (one refl)
at_truth_other calls.PrintLnText one other = absurd (other refl)
at_truth_other call one other = refl

-- a module without a name has no shipped call
pub no_home : (call : Bytes) (of : Option IntKind) → prim_of [] call of ≡ None
no_home call of = refl
