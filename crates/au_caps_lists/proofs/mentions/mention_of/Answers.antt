use Rattle.std.proofs.Common.{Some, sym, ap, ◌∙◌}
use Rattle.au_types.specs.WrittenViews.{said}
use Rattle.au_caps_lists.specs.Mentions.{mentions_of}
use Rattle.au_caps_lists.proofs.MentionLemmas.{in_integer, in_parameter, in_truth, in_unit}
use Rattle.au_caps_lists.proofs.mentions.mention_of.Goals as goal

pub returns-in-Unit : goal.returns-in-Unit
returns-in-Unit c = sym (ap (λ s. mentions_of (Some (said c.args.name.now s))) c.in-Unit.is ∙ in_unit)

pub returns-in-Bool : goal.returns-in-Bool
returns-in-Bool c = sym (ap (λ s. mentions_of (Some (said c.args.name.now s))) c.in-Bool.is ∙ in_truth)

pub returns-in-Int : goal.returns-in-Int
returns-in-Int c =
    sym (ap (λ s. mentions_of (Some (said c.args.name.now s))) c.in-Int.is ∙ in_integer c.in-Int.field-0)

pub returns-in-Param : goal.returns-in-Param
returns-in-Param c =
    sym (ap (λ s. mentions_of (Some (said c.args.name.now s))) c.in-Param.is ∙ in_parameter c.args.name.now)
