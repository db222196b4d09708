use Rattle.std.proofs.Common.{ap, ◌∙◌}
use Rattle.au_syntax.specs.Views.{module_tree}
use Rattle.au_mapping.proofs.wholes.copy_whole.Goals as goal

pub returns : goal.returns
returns g c =
    ap (module_tree g.P.Phase) c.new.ensures ∙ c.in_ok-tree.ensures
    ∙ ap (module_tree g.P.Phase) c.tree.ensures.same
