-- Which table is chosen for the name of a module.
use Rattle.std.proofs.Common.{◌≡◌, List, [], ◌∷◌, codes, Bool, true, false, if◌then◌else◌, Option, Some, ap, sym, ◌∙◌}
use Rattle.std.specs.Str.{bytes_eq}
use Rattle.au_base.specs.declared.kinds.IntKind.{IntKind}
use Rattle.au_syntax.specs.Plain.{Bytes}
use Rattle.au_shipped.specs.declared.prims.ShippedCall.{ShippedCall}
use Rattle.au_shipped.specs.Calls.{found, call_in, prim_of, pervasive_calls, box_calls, buffer_calls, terminal_calls}

abbrev Tables : Type 0
Tables = List (Bytes × List (Bytes × ShippedCall))

abbrev behind_buffers : Tables
behind_buffers = (codes "Standard.IO.Terminal", terminal_calls) ∷ []

abbrev behind_boxes : Tables
behind_boxes = (codes "Standard.Buffer", buffer_calls) ∷ behind_buffers

abbrev behind_pervasive : Tables
behind_pervasive = (codes "Standard.Box", box_calls) ∷ behind_boxes

-- the first table, or another
abbrev either_table : List (Bytes × ShippedCall) → Tables → Bytes → Bytes → Bool → Option ShippedCall
either_table table tables home call here = call_in (if here then Some table else found tables home) call

pub of_pervasive : (home call : Bytes) (of : Option IntKind) → bytes_eq (codes "Austral.Pervasive") home
    ≡ true → found (pervasive_calls of) call ≡ prim_of home call of
of_pervasive home call of is = sym (ap (either_table (pervasive_calls of) behind_pervasive home call) is)

pub of_buffers : (home call : Bytes) (of : Option IntKind) → bytes_eq (codes "Austral.Pervasive") home
    ≡ false → bytes_eq (codes "Standard.Box") home ≡ false → bytes_eq (codes "Standard.Buffer") home ≡ true →
    found buffer_calls call ≡ prim_of home call of
of_buffers home call of first second is =
    sym (ap (either_table (pervasive_calls of) behind_pervasive home call) first
    ∙ ap (either_table box_calls behind_boxes home call) second
    ∙ ap (either_table buffer_calls behind_buffers home call) is)

pub of_terminal : (home call : Bytes) (of : Option IntKind) → bytes_eq (codes "Austral.Pervasive") home
    ≡ false → bytes_eq (codes "Standard.Box") home ≡ false → bytes_eq (codes "Standard.Buffer") home ≡ false →
    bytes_eq (codes "Standard.IO.Terminal") home ≡ true → found terminal_calls call ≡ prim_of home call of
of_terminal home call of first second third is =
    sym (ap (either_table (pervasive_calls of) behind_pervasive home call) first
    ∙ ap (either_table box_calls behind_boxes home call) second
    ∙ ap (either_table buffer_calls behind_buffers home call) third
    ∙ ap (either_table terminal_calls [] home call) is)
