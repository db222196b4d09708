use Rattle.std.proofs.Common.{ap, ◌∙◌}
use Rattle.au_rules.specs.Nests.{left}
use Rattle.au_rules.proofs.NestLemmas.{left_is}
use Rattle.au_rules.proofs.nests.Nest.leave.Goals as goal

pub returns-in-Some : goal.returns-in-Some
returns-in-Some g c =
    left_is (λ k. k.items) c.self.inside.entries.entries _ c.self.inside.begins.items c.pop.new.self.items
    c.in-Some.begin c.truncate-in-Some.ensures.entries c.in-Some.ensures.items
    ∙ ap left c.self.view_is
