use Rattle.std.proofs.Common.{◌≡◌, ap, ◌∙◌}
use Rattle.au_types.specs.declared.spaces.Space.TheVariants.{Values, Callables, Types}
use Rattle.au_types.specs.Tables.{firsts}
use Rattle.au_modules.specs.Seen.{part_tree, tree_seen}
use Rattle.au_modules.specs.Slots as slots
use Rattle.au_names.specs.Exporting.{imports_seen}
use Rattle.au_names.specs.Importing.{imported}
use Rattle.au_names.specs.Meanings.{imports_in, part_of}
use Rattle.au_imports.proofs.BroughtLemmas.{imports_of, tree_is}
use Rattle.au_imports.proofs.brought.brought_to.Goals as goal

pub returns : goal.returns
returns c = λ m here.
    let program = slots.modules c.args.modules.now in
    let same : imports_seen (tree_seen c.part-file.result) ≡ imports_in (part_of c.args.part m) =
    ap imports_seen (c.part-file.ensures ∙ ap (part_tree c.args.part) here ∙ tree_is c.args.part m)
    ∙ imports_of (part_of c.args.part m) in
    record {
      values = c.in_ok-values.ensures ∙ ap (λ i. firsts (imported Values program c.args.place i)) same;
      callables = c.in_ok-callables.ensures
          ∙ ap (λ i. firsts (imported Callables program c.args.place i)) same;
      types = c.in_ok-types.ensures ∙ ap (λ i. firsts (imported Types program c.args.place i)) same;
    }
