use Rattle.std.proofs.Common.{ap, sym, refl, ◌∙◌, drop}
use Rattle.std.specs.Option.{option_map}
use Rattle.au_lives.specs.Scopes.{scope}
use Rattle.au_paths.specs.Seen.{seen_name, seen_statements}
use Rattle.au_linear.specs.Telling.{refusal_of}
use Rattle.au_linear.proofs.TellingLemmas as telling
use Rattle.au_linear.proofs.checking.judge_variable.Goals as goal

pub returns-in-None : goal.returns-in-None
returns-in-None g c =
    telling.judged_good (scope (seen_name g.P.Phase c.args.name.now)
    (seen_statements g.P.Phase (drop c.args.from c.args.block.now.statements.items)))
    c.args.sort c.in_ok-variable.variable c.in_ok-variable.ensures
    (sym c.in_ok-found.ensures ∙ ap (option_map refusal_of) c.in-None.is)

pub returns-in-Some : goal.returns-in-Some
returns-in-Some g c =
    telling.judged_bad (scope (seen_name g.P.Phase c.args.name.now)
    (seen_statements g.P.Phase (drop c.args.from c.args.block.now.statements.items)))
    c.args.sort c.in_ok-variable.variable _ c.in_ok-variable.ensures
    (sym c.in_ok-found.ensures ∙ ap (option_map refusal_of) c.in-Some.is) (sym c.in_ok-variable.ensures) refl
