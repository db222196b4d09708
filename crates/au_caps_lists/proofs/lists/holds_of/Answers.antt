use Rattle.std.proofs.Common.{◌++◌, ap, ◌∙◌}
use Rattle.std.proofs.lemmas.Result.{IfOk-weaker}
use Rattle.au_modules.specs.Slots as slots
use Rattle.au_types.specs.WrittenViews.{sense_in}
use Rattle.au_caps_text.specs.Lists.{IsListOf}
use Rattle.au_caps_lists.specs.Holding.{Holds, held_in_block}
use Rattle.au_caps_lists.specs.Mentions.{field_mentions}
use Rattle.au_caps_lists.specs.Reaching.{Reaches}
use Rattle.au_caps_lists.specs.Views.{body_said, mentions_said}
use Rattle.au_caps_lists.proofs.ListedLemmas.{holds_listed, sense_same}
use Rattle.au_caps_lists.proofs.lists.holds_of.Goals as goal

pub returns : goal.returns
returns c =
    let program = slots.modules c.args.program.now in
    let b = body_said c.args.body.now in
    let params = c.args.params.now in
    let sense = sense_in c.scope_of-scope.result in
    let all = mentions_said c.push_block.new.made.items in
    let is_sense = sense_same program b params sense c.requires.params c.scope_of-scope.ensures in
    let are =
    c.in_ok-push_block.ensures
    ∙ ap (λ l. l ++ held_in_block sense b.block) (c.in_ok-push_parameters.ensures
    ∙ ap (λ l. mentions_said l ++ field_mentions sense b.header.parameters) c.new-mentions.ensures.items) in
    IfOk-weaker c.entries_listed.result (IsListOf (Reaches program params all)) (IsListOf (Holds program b))
    (λ list is. holds_listed program b params sense all c.requires.params is_sense are list is)
    c.entries_listed.ensures
