use Rattle.std.proofs.Common.{ap, sym, ◌∙◌}
use Rattle.au_types.specs.Tables.{find}
use Rattle.au_types.proofs.TableLemmas.{find-pairs_by}
use Rattle.au_rules.proofs.nests.Nest.get.Goals as goal

pub returns : goal.returns
returns g c = c.get.ensures.value ∙ sym (find-pairs_by (λ k. k.items) c.args.name.now
    c.self.inside.entries.entries) ∙ ap (λ v. find c.args.name.now v.0) c.self.view_is
