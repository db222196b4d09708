use Rattle.std.proofs.Common.{ap, length, ◌∙◌, sym}
use Rattle.au_judged_types.proofs.BoundLemmas.{length_of}
use Rattle.au_judged_types.proofs.bounds.Generics.len.Goals as goal

pub returns : goal.returns
returns c = c.len.ensures ∙ sym (length_of c.self.inside.params c.self.inside.classes.items c.self.invariant)
    ∙ ap length c.self.view_is
