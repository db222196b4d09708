use Rattle.std.proofs.Common.{nat_lt, ◌∙◌}
use Rattle.au_names.specs.Walks.{written}
use Rattle.au_names.proofs.WalkLemmas.{type_put}
use Rattle.au_names.proofs.walking.put_type.Goals as goal

pub returns-clause-new : goal.returns-clause-new
returns-clause-new c =
    (λ i. nat_lt (c.len-before.ensures i) (c.len.ensures i))
    ∙ type_put c.args.seen.now c.put_declared.new.table (written c.args.decl.now) c.args.number
    c.in_ok-put_declared.ensures
