use Rattle.std.proofs.Common.{subst}
use Rattle.au_types.proofs.TypeLemmas.{text_means}
use Rattle.au_noting.specs.Giving.{Gives}
use Rattle.au_noting.specs.Modes.{wanted}
use Rattle.au_sights.specs.Views.{note}
use Rattle.au_typing.specs.Rules as rules
use Rattle.au_noting_expressions.proofs.fixed.text_note.Goals as goal

pub returns : goal.returns
returns c = subst (λ t. Gives note c.noted.result (rules.noted (wanted c.args.mode) t)) text_means c.noted.ensures
