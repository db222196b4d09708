use Rattle.au_syntax.specs.contracts.parsed.ParsedPhase.TheImpl.{ghosts as parsed}
use Rattle.au_syntax.specs.Plain.{plain_declaration}
use Rattle.au_syntax.specs.Views.{declaration}
use Rattle.au_promises.specs.Defining.{key_defined}
use Rattle.au_promises.specs.Written.{sight_in}
use Rattle.au_promises.proofs.DefinitionLemmas.{first_none, first_next, first_all}
use Rattle.au_promises.proofs.keys.first_keyed.Goals as goal

pub loop-index-init : goal.loop-index-init
loop-index-init c = first_none (key_defined c.args.sort (sight_in c.args.sight.now))
    c.new-table.result c.new-table.ensures

pub loop-index-preserved : goal.loop-index-preserved
loop-index-preserved c =
    first_next (plain_declaration parsed.name_bytes) (declaration parsed)
    (key_defined c.args.sort (sight_in c.args.sight.now)) c.loop-index.table
    c.put_key.new.table c.args.decls.now c.loop-index.index c.index-decls-index.result
    c.loop-index-test.true c.index-decls-index.is c.loop-index.invariant
    c.in_ok-put_key.ensures

pub returns : goal.returns
returns c =
    first_all (plain_declaration parsed.name_bytes) (declaration parsed)
    (key_defined c.args.sort (sight_in c.args.sight.now)) c.loop-index.table
    c.args.decls.now c.loop-index.index c.loop-index-test.false c.loop-index.invariant
