use Rattle.std.proofs.Common.{◌≡◌, [], ◌∷◌, ◌++◌, ap, sym, ◌∙◌, arith}
use Rattle.std.proofs.lemmas.Grind.{common_steps}
use Rattle.std.proofs.lemmas.List.{map_push}
use Rattle.au_lowered.specs.Drafts.{plain}
use Rattle.au_lowering_expressions.specs.declared.drafts.Draft.TheVariants as Draft
use Rattle.au_lowering_expressions.specs.Views.{draft_said, drafts_said}
use Rattle.au_lowering_expressions.proofs.WroteLemmas.{wrote_one}
use Rattle.au_lowering_expressions.proofs.drafts.put.Goals as goal

pub returns : goal.returns
returns c =
    let pushed : c.push.new.self.items ≡ c.args.out.now.items ++ (Draft.Plain c.args.instr) ∷ [] =
    grind (arith, common_steps) in
    ap drafts_said pushed
    ∙ map_push draft_said c.args.out.now.items (Draft.Plain c.args.instr)
    ∙ sym (wrote_one (plain c.args.instr) (drafts_said c.args.out.now.items))
