use Rattle.std.proofs.Common.{ap, ◌∙◌}
use Rattle.au_syntax.specs.contracts.parsed.ParsedPhase.TheImpl.{ghosts as parsed}
use Rattle.au_syntax.specs.Plain.{plain_declaration}
use Rattle.au_syntax.specs.Views.{declaration}
use Rattle.au_promises.specs.Defining.{name_defined, with_name}
use Rattle.au_promises.proofs.DefinitionLemmas.{first_none, first_next, first_all}
use Rattle.au_promises.proofs.definitions.first_defined.Goals as goal

pub loop-index-init : goal.loop-index-init
loop-index-init c = first_none (name_defined c.args.sort) c.new-table.result c.new-table.ensures

pub loop-index-preserved : goal.loop-index-preserved
loop-index-preserved c =
    first_next (plain_declaration parsed.name_bytes) (declaration parsed)
    (name_defined c.args.sort) c.loop-index.table c.put_name.new.table c.args.decls.now
    c.loop-index.index c.index-decls-index.result c.loop-index-test.true c.index-decls-index.is
    c.loop-index.invariant
    (c.in_ok-put_name.ensures ∙ ap (λ name. with_name c.loop-index.table name c.loop-index.index)
    c.name_defined.ensures)

pub returns : goal.returns
returns c =
    first_all (plain_declaration parsed.name_bytes) (declaration parsed)
    (name_defined c.args.sort) c.loop-index.table c.args.decls.now
    c.loop-index.index c.loop-index-test.false c.loop-index.invariant
