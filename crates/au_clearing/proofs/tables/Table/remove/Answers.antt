use Rattle.std.proofs.Common.{None, cond, ap, ◌∙◌}
use Rattle.std.specs.Str.{bytes_eq}
use Rattle.au_clearing.specs.Tables.{find}
use Rattle.au_clearing.proofs.TableLemmas.{changed}
use Rattle.au_clearing.proofs.tables.Table.remove.Goals as goal

pub returns : goal.returns
returns g c = λ x.
    changed (λ k. k.items) c.self.inside.entries.entries c.swap_remove-value.new.self.entries c.args.name.now None
    c.swap_remove-value.ensures.updates.1 c.swap_remove-value.ensures.updates.3 x
    ∙ ap (λ l. cond (bytes_eq c.args.name.now x) None (find x l)) c.self.view_is
