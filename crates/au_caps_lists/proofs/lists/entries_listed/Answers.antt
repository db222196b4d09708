use Rattle.std.proofs.Common.{Contains}
use Rattle.std.proofs.lemmas.Result.{IfOk-weaker}
use Rattle.au_modules.specs.Slots as slots
use Rattle.au_caps_text.specs.Lists.{IsListOf}
use Rattle.au_caps_text.specs.Views.{texts_in}
use Rattle.au_caps_lists.specs.Reaching.{Reaches}
use Rattle.au_caps_lists.specs.Views.{mentions_said}
use Rattle.au_caps_lists.proofs.EntryLemmas.{entries_listed}
use Rattle.au_caps_lists.proofs.lists.entries_listed.Goals as goal

pub returns : goal.returns
returns c =
    let program = slots.modules c.args.program.now in
    let texts = texts_in c.in_ok-texts.texts.items in
    let all = mentions_said c.args.mentions.now.items in
    IfOk-weaker c.list_of.result (IsListOf (Contains texts)) (IsListOf
    (Reaches program c.args.params.now all))
    (λ list is. entries_listed program c.args.reaching.now c.requires.reached c.args.params.now all texts
    c.in_ok-texts.ensures list is) c.list_of.ensures
