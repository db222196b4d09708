use Rattle.std.proofs.Common.{ap, sym, ◌∙◌, Bool, length, ◌==◌, ◌||◌, not, if◌then◌else◌}
use Rattle.au_syntax.specs.Views.{placed}
use Rattle.au_syntax.specs.Plain.{plain_name}
use Rattle.au_lives.specs.Mentions.{one_look, one_consumption}
use Rattle.au_lives.specs.Tallies.{tally_of}
use Rattle.au_lives.proofs.CountLemmas.{with_fields}
use Rattle.au_lives.proofs.counting.mentioned_with.Goals as goal

pub returns : goal.returns
returns g c =
    c.whole_or_part.ensures
    ∙ ap (λ (b : Bool). tally_of (if c.args.free || not b then one_look else one_consumption))
    (c.is_empty-whole.ensures ∙ ap (λ items. length items == 0) c.as_slice-items.ensures.value)
    ∙ ap tally_of (sym (with_fields (placed g.P.Phase) (plain_name g.P.Phase.name_bytes) c.args.free
    c.args.fields.now.items))
