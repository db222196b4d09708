use Rattle.std.proofs.Common.{◌++◌, ap, ◌∙◌, Contains}
use Rattle.std.proofs.lemmas.Result.{IfOk-weaker}
use Rattle.au_modules.specs.Slots as slots
use Rattle.au_caps_text.specs.Lists.{IsListOf}
use Rattle.au_caps_text.specs.Views.{texts_in}
use Rattle.au_caps_lists.specs.Entries.{heads_at}
use Rattle.au_caps.specs.Views.{HasLabel}
use Rattle.au_caps.proofs.RowLemmas.{labels_listed}
use Rattle.au_caps.proofs.rows.makes_of.Goals as goal

pub returns : goal.returns
returns c =
    let program = slots.modules c.args.program.now in
    let r = c.args.reaching.now in
    let texts = texts_in c.push_heads.new.made.items in
    let are =
    c.in_ok-push_heads.ensures
    ∙ ap (λ l. texts_in l ++ heads_at program r c.successors.result.now) c.new-texts.ensures.items
    ∙ ap (heads_at program r) c.successors.ensures in
    IfOk-weaker c.list_of.result (IsListOf (Contains texts)) (IsListOf
    (HasLabel program r c.args.made.now c.args.number))
    (λ list is. labels_listed program r c.args.made.now c.args.number texts are list is) c.list_of.ensures
