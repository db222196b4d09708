use Rattle.std.proofs.Common.{◌+◌, ◌&&◌, drop, ap, sym, ◌∙◌}
use Rattle.au_base.proofs.ListLemmas.{drop_at}
use Rattle.au_types.specs.Views.{argument_all}
use Rattle.au_instances.specs.Forms.{all_stand}
use Rattle.au_instances.proofs.forms.all_stand.Goals as goal

pub returns-then-not-stands_in : goal.returns-then-not-stands_in
returns-then-not-stands_in c =
    let args = argument_all c.args.args.now in
    let i = c.loop-index.index in
    let params = c.args.params.now in
    sym (c.loop-index.invariant
    ∙ ap (λ ps. all_stand ps args) (drop_at params i c.at.result.now c.at.ensures)
    ∙ ap (λ b. b && all_stand (drop (i + 1) params) args) (sym c.stands_in.ensures ∙ c.if-not-stands_in.true))

pub loop-index-preserved : goal.loop-index-preserved
loop-index-preserved c =
    let args = argument_all c.args.args.now in
    let i = c.loop-index.index in
    let params = c.args.params.now in
    c.loop-index.invariant
    ∙ ap (λ ps. all_stand ps args) (drop_at params i c.at.result.now c.at.ensures)
    ∙ ap (λ b. b && all_stand (drop (i + 1) params) args) (sym c.stands_in.ensures ∙ c.if-not-stands_in.false)
