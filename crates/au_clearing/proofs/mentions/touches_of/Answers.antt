use Rattle.std.proofs.Common.{false, ap}
use Rattle.au_base.proofs.BoolLemmas.{or_false}
use Rattle.au_clearing.specs.Seen.{seen_expression}
use Rattle.au_clearing.specs.Touches.{touched}
use Rattle.au_clearing.proofs.MentionLemmas.{meets_all, meets_same}
use Rattle.au_clearing.proofs.mentions.touches_of.Goals as goal

pub returns : goal.returns
returns g c =
    let e = seen_expression g.P.Phase c.args.e.now in
    meets_all c.new-table.result c.touch.new.table (λ x free. touched x free false e) c.new-table.ensures
    (meets_same c.new-table.result c.touch.new.table _ _ c.in_ok-touch.ensures
    (λ x free. ap (λ l. touched x l false e) (or_false free)))
