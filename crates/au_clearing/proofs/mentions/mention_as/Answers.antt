use Rattle.std.proofs.Common.{ap, refl}
use Rattle.std.proofs.lemmas.Result.{on_ok_weaker}
use Rattle.au_clearing.specs.Seen.{seen_name}
use Rattle.au_clearing.specs.Touches.{where_named}
use Rattle.au_clearing.specs.Deals.{by_touch}
use Rattle.au_clearing.proofs.MentionLemmas.{meets_same, same_for_both}
use Rattle.au_clearing.proofs.mentions.mention_as.Goals as goal

pub returns : goal.returns
returns g c =
    on_ok_weaker c.mention.result
    (λ met.
    meets_same c.args.table.now c.mention.new.table _ _ met
    (λ x free. ap (where_named x (seen_name g.P.Phase c.args.name.now).name)
    (same_for_both _ c.args.touch refl refl free)))
    c.mention.ensures
