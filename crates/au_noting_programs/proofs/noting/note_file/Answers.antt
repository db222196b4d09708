use Rattle.std.proofs.Common.{◌∙◌, Ok, ap}
use Rattle.std.proofs.lemmas.Result.{err_from_is_err_and}
use Rattle.au_typing.specs.DerivationFaults.{◌then◌}
use Rattle.au_sights.specs.Sights.{outside_seen}
use Rattle.au_syntax.specs.contracts.parsed.ParsedPhase.TheImpl.{ghosts as parsed}
use Rattle.au_syntax.specs.Views.{module_tree}
use Rattle.au_noting_programs.specs.Said.{file_said}
use Rattle.au_noting_programs.specs.Steps.{note_tree}
use Rattle.au_noting_programs.proofs.ChainLemmas.{judged_err, refuses_whole}
use Rattle.au_noting_programs.proofs.FileLemmas.{read_noted, with_number}
use Rattle.au_noting_programs.proofs.noting.note_file.Goals as goal

pub returns-in_err-tree : goal.returns-in_err-tree
returns-in_err-tree c =
    let p = err_from_is_err_and c.from_residual.result c.from_residual.ensures.1 in
    judged_err file_said c.from_residual.result c.in_err-tree.field-0.0 _ p
    (refuses_whole c.in_err-tree.field-0.0
    (note_tree (outside_seen c.args.outside.now) (module_tree parsed c.tree.result.now)) _
    (λ fault is.
    read_noted (outside_seen c.args.outside.now) c.args.file.now (module_tree parsed c.tree.result.now)
    (ap (module_tree parsed) c.tree.ensures.same)
    ∙ ap (λ r. r then λ tree. Ok (with_number c.args.file.now tree)) is)
    c.in_err-tree.ensures)

pub returns : goal.returns
returns c =
    read_noted (outside_seen c.args.outside.now) c.args.file.now (module_tree parsed c.tree.result.now)
    (ap (module_tree parsed) c.tree.ensures.same)
    ∙ ap (λ r. r then λ tree. Ok (with_number c.args.file.now tree)) c.in_ok-tree.ensures
