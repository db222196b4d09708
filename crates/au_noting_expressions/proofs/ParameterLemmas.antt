-- Walks over the parameters and the labels of a call.
use Rattle.std.proofs.Common.{◌≡◌, ◌==◌, ◌&&◌, ◌<◌, ℕ, ◌+◌, drop, length, get_or, count_by, List, ◌++◌}
use Rattle.std.proofs.Common.{Option, option_map, ap, sym, ◌∙◌}
use Rattle.std.proofs.lemmas.List.{at_drop_more}
use Rattle.std.specs.Str.{bytes_eq}
use Rattle.au_syntax.specs.Plain.{Bytes}
use Rattle.au_typing.specs.Calls.{each_is_named_once}
use Rattle.au_sights.specs.declared.called.Typed as code
use Rattle.au_noting.specs.Said.{all_typed}

-- types before those that are found, if some are
abbrev pub before : {A : Type 0} → List A → Option (List A) → Option (List A)
before made found = option_map (λ rest. made ++ rest) found

-- whether the parameters from one on are each named once is told by it and the others
pub named_step : (labels : List Bytes) (ps : List code.Typed) (i : ℕ) (one : code.Typed) → i < length ps →
    one ≡ get_or ps i one →
    each_is_named_once labels (all_typed (drop i ps))
    ≡ ((count_by (bytes_eq one.name) labels == 1) && each_is_named_once labels
    (all_typed (drop (i + 1) ps)))
named_step labels ps i one within is =
    at_drop_more (λ rest. each_is_named_once labels (all_typed rest)) ps i one within
    ∙ ap (λ (x : code.Typed). (count_by (bytes_eq x.name) labels == 1) && each_is_named_once labels
    (all_typed (drop (i + 1) ps))) (sym is)
