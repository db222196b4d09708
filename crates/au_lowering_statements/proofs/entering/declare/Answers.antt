use Rattle.std.proofs.Common.{◌≡◌, [], ◌∷◌, ◌++◌, ap, sym, subst, ◌∙◌, arith}
use Rattle.std.proofs.lemmas.Grind.{common_steps}
use Rattle.std.specs.Option.{option_map}
use Rattle.au_type_texts.specs.Views.{closed_meaning}
use Rattle.au_lowering_expressions.specs.declared.locals.Local.{Local}
use Rattle.au_lowering_expressions.specs.Views.{scope_said}
use Rattle.au_lowering_expressions.proofs.LoopLemmas.{scope_push}
use Rattle.au_lowering_statements.specs.Views.{Begins}
use Rattle.au_lowering_statements.proofs.BlockLemmas.{begins_push}
use Rattle.au_meaning.specs.Names.{with_name}
use Rattle.au_lowering_statements.proofs.entering.declare.Goals as goal

pub returns-clause-said : goal.returns-clause-said
returns-clause-said c =
    let one : Local = record { name = c.in_ok-name.name; slot = c.args.slot; of = c.args.of } in
    let old = c.args.scope.now in
    let pushed : c.declare.new.self ≡ old ++ one ∷ [] = grind (arith, common_steps) in
    ap scope_said pushed ∙ scope_push old one
    ∙ ap (λ n. with_name n c.args.slot (option_map closed_meaning c.args.of) (scope_said old))
    c.in_ok-name.ensures

pub returns-clause-keeps : goal.returns-clause-keeps
returns-clause-keeps c =
    let one : Local = record { name = c.in_ok-name.name; slot = c.args.slot; of = c.args.of } in
    let old = c.args.scope.now in
    let pushed : c.declare.new.self ≡ old ++ one ∷ [] = grind (arith, common_steps) in
    subst (Begins old) (sym pushed) (begins_push old one)
