use Rattle.std.proofs.Common.{Some, ◌++◌, map, sym, ap, ◌∙◌}
use Rattle.au_modules.specs.Seen.{tree_seen}
use Rattle.au_modules.specs.Slots as slots
use Rattle.au_names.specs.Exporting.{declarations_seen}
use Rattle.au_names.specs.Methods.{methods_of}
use Rattle.au_names.proofs.MethodLemmas.{both_seen}
use Rattle.au_names.proofs.methods.methods_at.Goals as goal

pub returns : goal.returns
returns c =
    let interface = map methods_of (declarations_seen (tree_seen c.interface.result)) in
    let body = map methods_of (declarations_seen (tree_seen c.body.result)) in
    both_seen (slots.modules c.args.modules.now) c.args.place (tree_seen c.interface.result)
    (tree_seen c.body.result) c.requires c.interface.ensures c.body.ensures
    ∙ ap Some
    (sym
    (c.in_ok-push_part-2.ensures
    ∙ ap (λ r. r ++ body) (c.in_ok-push_part.ensures ∙ ap (λ r. r ++ interface) c.new-all.ensures.items)))
