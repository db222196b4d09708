use Rattle.std.proofs.Common.{◌++◌, ap, ◌∙◌}
use Rattle.std.specs.Prelude.{slice_get}
use Rattle.std.proofs.lemmas.Result.{on_ok_weaker}
use Rattle.au_modules.specs.Seen.{interface_tree, body_tree}
use Rattle.au_modules.specs.Slots as slots
use Rattle.au_names.specs.Exporting as exporting
use Rattle.au_promises.specs.Written.{declarations_of}
use Rattle.au_classes.specs.InstanceViews.{texts_said}
use Rattle.au_classes.proofs.GatherLemmas.{parts_are}
use Rattle.au_classes.proofs.gathering.push_module.Goals as goal

pub returns : goal.returns
returns c = λ m here.
    let program = slots.modules c.args.program.now in
    let place = c.args.place in
    let interface = c.interface.ensures ∙ ap (λ ms. interface_tree (slice_get (slots.modules ms) place))
    c.modules-modules.ensures.kept ∙ ap interface_tree here in
    let body = c.body.ensures ∙ ap (λ ms. body_tree (slice_get (slots.modules ms) place))
    c.modules-modules.ensures.kept ∙ ap body_tree here in
    on_ok_weaker c.push_parts.result
    (λ is. is ∙ ap (λ xs. texts_said c.args.list.now.items ++ xs)
    (parts_are program place m c.names.result.now.types c.names-2.result.now.types c.heads_ref.result.now
    c.in_ok-place_in.field-0
    (declarations_of c.declarations_in-interface.result.now) (declarations_of c.declarations_in-body.result.now)
    (c.names.ensures.types m here) (c.names-2.ensures.types m here) c.heads_ref.ensures c.in_ok-place_in.ensures
    (c.declarations_in-interface.ensures ∙ ap exporting.declarations_seen interface)
    (c.declarations_in-body.ensures ∙ ap exporting.declarations_seen body)))
    c.push_parts.ensures
