use Rattle.std.proofs.Common.{[], length, sym, ap, ◌∙◌}
use Rattle.std.proofs.lemmas.List.{length-map}
use Rattle.au_sights.proofs.MakerLemmas.{none_constrained}
use Rattle.au_sights.proofs.makers.unconstrained.Goals as goal

pub of-requires : goal.of-requires
of-requires c = sym (ap length c.in_ok-classes.ensures ∙ length-map c.args.params (λ p. []))

pub returns : goal.returns
returns c = c.of.ensures ∙ none_constrained c.args.params c.in_ok-classes.classes.items c.in_ok-classes.ensures
