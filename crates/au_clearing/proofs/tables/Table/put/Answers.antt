use Rattle.std.proofs.Common.{Some, cond, ap, ◌∙◌}
use Rattle.std.specs.Str.{bytes_eq}
use Rattle.au_clearing.specs.Tables.{find}
use Rattle.au_clearing.proofs.TableLemmas.{changed}
use Rattle.au_clearing.proofs.tables.Table.put.Goals as goal

pub returns : goal.returns
returns g c = λ x.
    changed (λ k. k.items) c.self.inside.entries.entries c.insert.new.self.entries c.args.name.items
    (Some c.args.value) c.in_ok-insert.ensures.updates.1 c.in_ok-insert.ensures.updates.3 x
    ∙ ap (λ l. cond (bytes_eq c.args.name.items x) (Some c.args.value) (find x l)) c.self.view_is
