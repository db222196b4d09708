use Rattle.std.proofs.Common.{◌≡◌, [], ◌∷◌, ◌++◌, length, ap, sym, ◌∙◌, arith}
use Rattle.std.proofs.lemmas.Grind.{common_steps}
use Rattle.std.proofs.lemmas.List.{length-map}
use Rattle.au_lowering_expressions.specs.Views.{draft_said, drafts_said}
use Rattle.au_lowering_statements.proofs.JumpLemmas.{holed_none, holed_some}
use Rattle.au_lowering_statements.proofs.jumps.put_end.Goals as goal

pub returns-then-unneeded : goal.returns-then-unneeded
returns-then-unneeded c =
    holed_none c.args.unneeded c.args.jumps.now.items (drafts_said c.args.out.now.items) c.if-unneeded.true

pub returns : goal.returns
returns c =
    let pushed : c.push.new.self.items ≡ c.args.jumps.now.items ++ length c.args.out.now.items ∷ [] =
    grind (arith, common_steps) in
    holed_some c.args.unneeded c.args.jumps.now.items c.push.new.self.items (drafts_said c.args.out.now.items)
    (drafts_said c.put.new.out.items) c.if-unneeded.false
    (pushed ∙ ap (λ n. c.args.jumps.now.items ++ n ∷ []) (sym (length-map c.args.out.now.items draft_said)))
    c.in_ok-put.ensures
