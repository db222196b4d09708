use Rattle.std.proofs.Common.{ap, sym, ◌∙◌}
use Rattle.std.specs.Option.{option_map}
use Rattle.au_closed_meanings.specs.Surroundings.{literal_value}
use Rattle.au_lowered.specs.Expressions.{literal}
use Rattle.au_lowering_expressions.specs.Views.{drafts_said}
use Rattle.au_lowering_expressions.proofs.WroteLemmas.{none_written}
use Rattle.au_lowering_expressions.proofs.leaves.put_constant.Goals as goal

pub returns-in-None : goal.returns-in-None
returns-in-None c =
    none_written _ literal (drafts_said c.args.out.now.items) (ap (option_map literal_value) c.in-None.is)
