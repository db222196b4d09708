use Rattle.std.proofs.Common.{None, cond, ap, sym, ◌∙◌}
use Rattle.std.specs.Str.{bytes_eq}
use Rattle.std.proofs.lemmas.Option.{IfSome_then}
use Rattle.au_clearing.specs.Tables.{find}
use Rattle.au_clearing.proofs.TableLemmas.{changed, popped_found}
use Rattle.au_clearing.proofs.tables.Table.pop.Goals as goal

pub returns-clause-found : goal.returns-clause-found
returns-clause-found g c =
    IfSome_then c.pop.result
    (popped_found (λ k. k.items) c.self.inside.entries.entries c.pop.new.self.entries c.pop.result
    c.pop.ensures.entries (IfSome_then c.pop.result c.pop.ensures.updates (λ p u. u.1)))
    (λ p h. sym (ap (find p.0.items) c.self.view_is) ∙ h)

pub returns-clause-changes : goal.returns-clause-changes
returns-clause-changes g c =
    IfSome_then c.pop.result c.pop.ensures.updates
    (λ p u x.
    changed (λ k. k.items) c.self.inside.entries.entries c.pop.new.self.entries p.0.items None u.1 u.3 x
    ∙ ap (λ l. cond (bytes_eq p.0.items x) None (find x l)) c.self.view_is)
