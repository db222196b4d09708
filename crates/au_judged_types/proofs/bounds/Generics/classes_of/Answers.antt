use Rattle.std.proofs.Common.{ap, ◌∙◌}
use Rattle.au_judged_types.specs.Bounds.{classes_of}
use Rattle.au_judged_types.proofs.bounds.Generics.classes_of.Goals as goal

pub returns : goal.returns
returns c = c.classes_in.ensures ∙ ap (λ generics. classes_of generics c.args.name.now) c.self.view_is
