use Rattle.std.proofs.Common.{sym, ap, ◌∙◌, arith}
use Rattle.std.specs.Option.{option_map}
use Rattle.std.proofs.lemmas.Option.{same_Some}
use Rattle.std.proofs.lemmas.Result.{on_ok_weaker}
use Rattle.au_names.specs.Exporting.{in_space, body_names}
use Rattle.au_names.specs.Sources.{modules_of}
use Rattle.au_names.proofs.ExportLemmas.{as_many}
use Rattle.au_names.proofs.SeenLemmas.{own_put}
use Rattle.au_names.proofs.seeing.put_own.Goals as goal

pub offered_names-offered-requires : goal.offered_names-offered-requires
offered_names-offered-requires c =
    omega (
      arith,
      c.requires.within,
      as_many c.args.source.now.exports.now.interfaces.items (modules_of c.args.source.now)
          c.requires.made.interfaces,
    )

pub returns : goal.returns
returns c = λ m here.
    on_ok_weaker c.put_table-2.result
    (own_put c.args.space c.args.place m c.args.table.now c.put_table.new.table c.put_table-2.new.table
    c.offered_names-offered.result.now c.in_space-hidden.result.now
    (c.offered_names-offered.ensures (modules_of c.args.source.now) m c.requires.made here)
    (c.in_space-hidden.ensures
    ∙ ap (in_space c.args.space)
    (sym
    (same_Some (body_names m) c.args.body.now
    (ap (option_map body_names) (sym here) ∙ c.requires.body))))
    c.in_ok-put_table.ensures)
    c.put_table-2.ensures
