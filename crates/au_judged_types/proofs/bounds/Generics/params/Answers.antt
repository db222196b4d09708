use Rattle.std.proofs.Common.{ap, ◌∙◌, sym}
use Rattle.au_judged_types.specs.Bounds.{parameters}
use Rattle.au_judged_types.proofs.BoundLemmas.{parameters_of}
use Rattle.au_judged_types.proofs.bounds.Generics.params.Goals as goal

pub returns : goal.returns
returns c = sym (parameters_of c.self.inside.params c.self.inside.classes.items c.self.invariant)
    ∙ ap parameters c.self.view_is
