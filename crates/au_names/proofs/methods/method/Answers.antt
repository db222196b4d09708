use Rattle.std.proofs.Common.{sym, ap, ◌∙◌}
use Rattle.au_modules.specs.Slots as slots
use Rattle.au_types.specs.Tables as tables
use Rattle.au_names.specs.Methods.{method_among, methods_there}
use Rattle.au_names.specs.Walks.{written}
use Rattle.au_names.proofs.MethodLemmas.{method_missing, method_there}
use Rattle.au_names.proofs.methods.method.Goals as goal

pub returns-in-None-index : goal.returns-in-None-index
returns-in-None-index c =
    method_missing c.args.name.now (written c.in-Some.found.decl.now)
    (sym c.in-None-index.is
    ∙ c.index.ensures (slots.modules c.args.modules.now) c.requires
    ∙ ap (λ d. tables.find c.args.name.now (methods_there d)) (sym c.in-Some.ensures))
    ∙ ap (method_among c.args.name.now) c.in-Some.ensures

pub returns-in-Some-index : goal.returns-in-Some-index
returns-in-Some-index c =
    c.method_in.ensures
    ∙ method_there c.args.name.now (written c.in-Some.found.decl.now) c.in-Some-index.index
    (sym c.in-Some-index.is
    ∙ c.index.ensures (slots.modules c.args.modules.now) c.requires
    ∙ ap (λ d. tables.find c.args.name.now (methods_there d)) (sym c.in-Some.ensures))
    ∙ ap (method_among c.args.name.now) c.in-Some.ensures
