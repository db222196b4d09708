use Rattle.std.proofs.Common.{ap, sym, ◌∙◌, arith}
use Rattle.au_lowering_expressions.specs.Views.{drafts_said, scope_said}
use Rattle.au_lowering_expressions.specs.Wrote.{wrote}
use Rattle.au_lowering_expressions.proofs.WroteLemmas.{wrote_nothing}
use Rattle.au_lowering_statements.proofs.SimpleLemmas as lemmas
use Rattle.au_lowering_statements.proofs.simple.write_simple.Goals as goal

pub returns-in-Let : goal.returns-in-Let
returns-in-Let g c = grind (arith, lemmas.let_code)

pub returns-in-Destructure : goal.returns-in-Destructure
returns-in-Destructure g c = grind (arith, lemmas.destructure_code)

pub returns-in-Assign : goal.returns-in-Assign
returns-in-Assign g c = grind (arith, lemmas.assign_code)

pub returns-in-AssignThrough : goal.returns-in-AssignThrough
returns-in-AssignThrough g c = grind (arith, lemmas.assign_through_code)

pub returns-in-Call : goal.returns-in-Call
returns-in-Call g c = grind (arith, lemmas.call_code)

pub returns-in-Return : goal.returns-in-Return
returns-in-Return g c = grind (arith, lemmas.return_code)

pub returns-in_default : goal.returns-in_default
returns-in_default g c =
    let k = c.in_default in
    let d = drafts_said c.args.out.now.items in
    sym (wrote_nothing d)
    ∙ sym (ap (λ w. wrote w d)
    (lemmas.simple_none (g.R.Lookup.round c.args.by.now.lookup.now) c.args.by.now.around c.args.by.now.slot
    (scope_said c.args.scope.now) c.args.of.now k.not-Let k.not-Destructure k.not-Assign k.not-AssignThrough
    k.not-Call k.not-Return))
