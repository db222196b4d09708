use Rattle.std.proofs.Common.{refl, sym, ◌∙◌}
use Rattle.au_closed_programs.specs.Views.{program_said}
use Rattle.au_lowering.specs.DraftViews.{all_said}
use Rattle.au_lowering.proofs.LowerLemmas.{too_long_is}
use Rattle.au_lowering.proofs.coding.lower_drafted.Goals as goal

pub returns-then-passes_limit-clause-limit : goal.returns-then-passes_limit-clause-limit
returns-then-passes_limit-clause-limit c = (
  sym (too_long_is (program_said c.args.program.now)
      (all_said c.args.all.items) c.requires) ∙ sym c.passes_limit.ensures ∙ c.if-passes_limit.true,
  refl,
)

pub returns-in-Ok-clause-limit : goal.returns-in-Ok-clause-limit
returns-in-Ok-clause-limit c =
    sym (too_long_is (program_said c.args.program.now)
    (all_said c.args.all.items) c.requires) ∙ sym c.passes_limit.ensures ∙ c.if-passes_limit.false
