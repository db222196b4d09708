use Rattle.std.proofs.Common.{ap, ◌∙◌}
use Rattle.std.specs.Prelude.{slice_get}
use Rattle.au_names.specs.Methods.{written_methods}
use Rattle.au_names.proofs.MethodLemmas.{method_got}
use Rattle.au_names.proofs.methods.method_of.Goals as goal

pub returns : goal.returns
returns c =
    method_got c.deref.result.now c.args.index c.get.result c.get.ensures.lookup.0 c.get.ensures.lookup.1
    ∙ ap (λ xs. slice_get (written_methods xs) c.args.index) c.deref.ensures.value
