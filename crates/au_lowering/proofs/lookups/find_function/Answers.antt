use Rattle.std.proofs.Common.{sym, ap, ◌∙◌}
use Rattle.std.specs.Option.{option_map}
use Rattle.au_closed_programs.specs.FunctionViews.{function_said}
use Rattle.au_lowering.specs.Closed.{body_seen}
use Rattle.au_lowering.proofs.DraftLemmas.{body_at}
use Rattle.au_lowering.proofs.lookups.find_function.Goals as goal

pub returns : goal.returns
returns c =
    ap (option_map (λ f. body_seen (function_said f))) c.function_at.ensures
    ∙ sym (body_at c.args.functions.now.items c.args.number)
