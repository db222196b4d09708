use Rattle.std.proofs.Common.{ap, sym, ◌∙◌}
use Rattle.std.specs.Option.{option_copied, option_map}
use Rattle.au_lowered.specs.Drafts.{nothing}
use Rattle.au_lowered.specs.Expressions.{looked_at}
use Rattle.au_lowering_expressions.specs.Views.{drafts_said, local_said}
use Rattle.au_lowering_expressions.specs.Wrote.{wrote}
use Rattle.au_lowering_expressions.proofs.WroteLemmas.{wrote_nothing}
use Rattle.au_lowering_expressions.proofs.leaves.put_alone.Goals as goal

pub returns-in-None-clause-written : goal.returns-in-None-clause-written
returns-in-None-clause-written c =
    let d = drafts_said c.args.out.now.items in
    sym (wrote_nothing d)
    ∙ ap (λ o. wrote (looked_at o nothing) d)
    (sym (sym c.alone.ensures ∙ ap (λ o. option_map local_said (option_copied o)) c.in-None.is))
