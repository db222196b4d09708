use Rattle.std.proofs.Common.{ap, ◌∙◌}
use Rattle.au_types.specs.Tables as tables
use Rattle.au_classes.specs.Views.{headers_of}
use Rattle.au_classes.proofs.MethodLemmas.{declared_found}
use Rattle.au_classes.proofs.methods.is_declared.Goals as goal

pub returns : goal.returns
returns c =
    c.is_some.ensures
    ∙ declared_found (headers_of c.args.list.now.items) c.args.by_name.now c.args.one.now.signature.name.name
    c.get.result c.requires
    (c.get.ensures ∙ ap (λ n. tables.find n c.args.by_name.now) c.as_bytes.ensures.bytes)
