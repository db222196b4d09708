use Rattle.std.proofs.Common.{◌++◌, map, sym, ap, ◌∙◌}
use Rattle.std.proofs.lemmas.List.{append-nil}
use Rattle.au_modules.specs.Seen.{tree_seen}
use Rattle.au_names.specs.Exporting.{declarations_seen}
use Rattle.au_names.specs.Methods.{methods_of}
use Rattle.au_names.proofs.methods.push_part.Goals as goal

pub returns-in-None : goal.returns-in-None
returns-in-None c =
    sym (append-nil c.args.all.now.items)
    ∙ ap (λ file. c.args.all.now.items ++ map methods_of (declarations_seen (tree_seen file)))
    (sym c.in-None.is)
