use Rattle.std.proofs.Common.{sym, ap, ◌∙◌}
use Rattle.au_types.specs.Tables.{with_all}
use Rattle.au_types.proofs.TableLemmas.{with_all-none}
use Rattle.au_names.specs.Defining.{indexed}
use Rattle.au_names.specs.Standing.{whole_name}
use Rattle.au_names.specs.Walks.{written}
use Rattle.au_names.proofs.DefiningLemmas.{whole_put}
use Rattle.au_names.proofs.definitions.put_whole.Goals as goal

pub returns-in-None : goal.returns-in-None
returns-in-None c =
    sym (with_all-none c.args.table.now)
    ∙ ap (λ o. with_all c.args.table.now (indexed c.args.index o)) c.in-None.ensures

pub returns-in_ok-put-in-Some : goal.returns-in_ok-put-in-Some
returns-in_ok-put-in-Some c =
    whole_put c.args.table.now c.put.new.self c.args.index c.as_bytes.result.now c.in-Some.name.now
    (whole_name (written c.args.decl.now)) c.in-Some.ensures c.as_bytes.ensures.bytes
    c.in_ok-put-in-Some.ensures.pairs
