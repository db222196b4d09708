use Rattle.std.proofs.Common.{subst}
use Rattle.au_types.proofs.TypeLemmas.{unit_means}
use Rattle.au_noting.specs.Giving.{Gives}
use Rattle.au_noting.specs.Modes.{wanted}
use Rattle.au_sights.specs.Views.{note}
use Rattle.au_typing.specs.Rules as rules
use Rattle.au_noting_expressions.proofs.fixed.unit_note.Goals as goal

pub returns : goal.returns
returns c = subst (λ t. Gives note c.noted.result (rules.noted (wanted c.args.mode) t)) unit_means c.noted.ensures
