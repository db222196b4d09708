use Rattle.std.proofs.Common.{◌∙◌, length, map}
use Rattle.std.proofs.lemmas.List.{length-map}
use Rattle.au_lowered.specs.Drafts.{does}
use Rattle.au_lowering_expressions.specs.Parts.{pushes_true}
use Rattle.au_lowering_expressions.specs.Views.{draft_said, drafts_said}
use Rattle.au_lowering_expressions.proofs.WroteLemmas.{first_written}
use Rattle.au_lowering_expressions.proofs.expressions.write_true.Goals as goal

pub returns : goal.returns
returns c =
    first_written (does pushes_true) (drafts_said c.args.out.now.items) (drafts_said c.put.new.out.items)
    (drafts_said c.put-2.new.out.items) (drafts_said c.end_first.new.out.items) c.len-test.result
    c.len-jump.result
    (cc (length-map c.args.out.now.items draft_said)) c.in_ok-put.ensures c.in_ok-put-2.ensures
    (cc (length-map c.put-2.new.out.items draft_said)) c.in_ok-end_first.ensures
