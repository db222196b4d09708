use Rattle.std.proofs.Common.{◌∙◌, sym, subst}
use Rattle.au_sights.specs.Views.{note}
use Rattle.au_types.specs.Views.{meaning}
use Rattle.au_noting.specs.Giving.{Gives}
use Rattle.au_noting.specs.Modes.{wanted}
use Rattle.au_noting.specs.Scopes.{scope_said}
use Rattle.au_noting.proofs.PathLemmas.{path_of_some}
use Rattle.au_noting.proofs.nodes.path_note.Goals as goal

pub returns-else-is_empty : goal.returns-else-is_empty
returns-else-is_empty c =
    subst (Gives note c.part_note.result)
    (sym (path_of_some (scope_said c.args.scope.now) (wanted c.args.mode) c.args.path.now
    (meaning c.args.of.now) (sym c.is_empty.ensures ∙ c.if-is_empty.false)))
    c.part_note.ensures
