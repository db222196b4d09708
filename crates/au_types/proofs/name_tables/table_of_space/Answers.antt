use Rattle.std.proofs.Common.{ap, ◌∙◌, map}
use Rattle.std.proofs.lemmas.List.{take_all}
use Rattle.au_syntax.specs.Plain.{plain_declaration}
use Rattle.au_syntax.specs.Views.{declaration}
use Rattle.au_types.specs.DeclaredNames.{numbered, table_of}
use Rattle.au_types.proofs.DeclaredLemmas.{no_declarations, table_step}
use Rattle.au_types.proofs.name_tables.table_of_space.Goals as goal

pub loop-place-init : goal.loop-place-init
loop-place-init g c = c.new-table.ensures ∙ no_declarations c.args.space c.args.first

pub loop-place-preserved : goal.loop-place-preserved
loop-place-preserved g c =
    table_step (plain_declaration g.P.Phase.name_bytes)
    (declaration g.P.Phase) c.args.space c.args.first c.loop-place.table c.put_declared.new.table
    c.deref-one-items.result.now c.loop-place.place c.one-item.result c.loop-place-test.true c.one-item.is
    c.loop-place.invariant c.in_ok-put_declared.ensures

pub returns : goal.returns
returns g c =
    c.loop-place.invariant ∙ ap (λ r. table_of c.args.space
    (numbered c.args.first (map (plain_declaration g.P.Phase.name_bytes)
    (map (declaration g.P.Phase) r)))) (take_all c.loop-place.place c.deref-one-items.result.now
    c.loop-place-test.false ∙ c.deref-one-items.ensures.value)
