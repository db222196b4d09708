use Rattle.std.proofs.Common.{[], IsPermutation, ap, map, subst, ◌∙◌}
use Rattle.au_modules.specs.Slots as slots
use Rattle.au_type_texts.specs.Same.{same}
use Rattle.au_type_texts.specs.Views.{closed_meaning}
use Rattle.au_graphs.specs.Finding.{found_in}
use Rattle.au_graphs.specs.Reached.{adds}
use Rattle.au_names.specs.HeadsOf.{heads_of}
use Rattle.au_closed_programs.specs.FunctionViews.{functions_said}
use Rattle.au_closed_trees.specs.Occurring.{follows}
use Rattle.au_closed_programs.specs.Programs.{row_of, types_in_functions}
use Rattle.au_closed_programs.specs.Views.{rows_said}
use Rattle.au_closed_programs.proofs.GatheredLemmas.{functions_free, lists_same}
use Rattle.au_closed_programs.proofs.types.closed_types.Goals as goal

pub returns : goal.returns
returns c =
    let program = slots.modules c.args.program.now in
    let functions = functions_said c.args.functions.now in
    let reached = found_in closed_meaning c.in_ok-reached.reached in
    record {
      reached = reached;
      lists =
          lists_same (follows program) (map closed_meaning c.into_list.result.items)
          (types_in_functions (heads_of program) functions)
          (c.into_list.ensures ∙ c.in_ok-found.ensures
          ∙ ap (adds same []) (functions_free (heads_of program) functions))
          reached c.in_ok-reached.ensures;
      are_theirs =
          subst (λ rows. IsPermutation rows (rows_said c.sort_rows.new.rows.items))
          (c.in_ok-rows.ensures ∙ ap (λ list. map (row_of program) (map closed_meaning list)) c.list.ensures)
          c.sort_rows.ensures.permutation;
      ordered = c.sort_rows.ensures.ordered;
    }
