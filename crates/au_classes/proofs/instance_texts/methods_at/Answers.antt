use Rattle.std.proofs.Common.{ap, sym, ◌∙◌}
use Rattle.au_promises.specs.Written.{declarations_of}
use Rattle.au_classes.specs.Texts.{methods_at, methods_in}
use Rattle.au_classes.proofs.instance_texts.methods_at.Goals as goal

pub returns-in-Some : goal.returns-in-Some
returns-in-Some c =
    c.methods_in.ensures ∙ ap methods_in c.declaration_at.ensures
    ∙ sym (ap (methods_at (declarations_of c.args.body.now)) c.in-Some.is)
