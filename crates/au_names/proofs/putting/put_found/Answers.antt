use Rattle.std.proofs.Common.{sym, ap, ◌∙◌}
use Rattle.std.proofs.lemmas.Result.{on_ok_weaker}
use Rattle.au_types.specs.Tables.{with_all}
use Rattle.au_types.proofs.TableLemmas.{with_all-none, with_all-one}
use Rattle.au_names.specs.Exporting.{found_as}
use Rattle.au_names.specs.Owned.{target}
use Rattle.au_names.proofs.putting.put_found.Goals as goal

pub returns-in-None : goal.returns-in-None
returns-in-None c =
    sym (with_all-none c.args.table.now)
    ∙ ap (λ found. with_all c.args.table.now (found_as c.args.place c.args.name.now c.args.local.now found))
    c.in-None.ensures

pub returns-in-Some : goal.returns-in-Some
returns-in-Some c =
    let place = c.args.place in
    let name = c.args.name.now in
    let local = c.args.local.now in
    let meant = target place name c.in-Some.number.now in
    on_ok_weaker c.put_target.result
    (λ put. put ∙ sym (with_all-one c.args.table.now local meant)
    ∙ ap (λ found. with_all c.args.table.now (found_as place name local found)) c.in-Some.ensures)
    c.put_target.ensures
