use Rattle.std.proofs.Common.{rules, FitsSigned, to_z-of_z}
use mir.Syntax.{w128}
use Rattle.au_sights.specs.contracts.noted.NotedPhase.TheImpl.{ghosts as noted}
use Rattle.au_syntax.specs.contracts.parsed.ParsedPhase.TheImpl.{ghosts as parsed}
use Rattle.au_syntax.specs.Expressions.{number}
use Rattle.au_syntax.specs.Views.{node}
use Rattle.au_syntax.proofs.ExpressionLemmas.{number_says}
use Rattle.au_typing.specs.Search.{literal_note}
use Rattle.au_noting.specs.Modes.{wanted}
use Rattle.au_noting_expressions.proofs.MadeLemmas.{made_of}
use Rattle.au_noting_expressions.proofs.leaves.note_number.Goals as goal

pub returns : goal.returns
returns c =
    let fits : FitsSigned w128 c.args.literal.now.value = search rules in
    made_of (λ z. literal_note (wanted c.args.mode) z) _ c.args.literal.now.value _
    (node parsed c.args.site.now) (λ m. number m c.args.literal.now) _ _
    c.in_ok-note.ensures (to_z-of_z fits) c.noted_site.ensures
    (number_says noted c.noted_site.result c.args.literal.now)
