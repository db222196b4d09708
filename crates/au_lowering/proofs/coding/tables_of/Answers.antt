use Rattle.std.proofs.Common.{ap, ◌∙◌, map}
use Rattle.std.specs.Str.{bytes_eq}
use Rattle.au_closed_programs.specs.FunctionViews.{functions_said}
use Rattle.au_type_texts.specs.Keys.{key_of}
use Rattle.au_lowered.specs.Programs.{types_named}
use Rattle.au_lowering.specs.Closed.{roots_of}
use Rattle.au_lowering.specs.Drafted.{all_drafts}
use Rattle.au_lowering.specs.DraftViews.{all_said}
use Rattle.au_lowering.proofs.LowerLemmas.{more_types}
use Rattle.au_graphs.specs.Reached.{adds}
use Rattle.au_lowering.proofs.coding.tables_of.Goals as goal

pub returns-clause-types : goal.returns-clause-types
returns-clause-types c =
    c.in_ok-collect_functions.ensures.types
    ∙ ap (λ keys. adds bytes_eq keys
    (map key_of (types_named (all_drafts (all_said c.args.all.now.items))))) c.in_ok-types.ensures
    ∙ more_types (roots_of (functions_said c.args.functions.now.items))
    (types_named (all_drafts (all_said c.args.all.now.items)))
