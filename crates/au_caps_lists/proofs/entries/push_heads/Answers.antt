use Rattle.std.proofs.Common.{◌++◌, get_or, take, sym, ap, ◌∙◌, append_assoc}
use Rattle.std.specs.Prelude.{option_to_list}
use Rattle.std.proofs.lemmas.List.{get_or_default}
use Rattle.au_modules.specs.Slots as slots
use Rattle.au_caps_text.specs.Views.{texts_in}
use Rattle.au_caps_lists.specs.Entries.{head_at, heads_at}
use Rattle.au_caps_lists.proofs.LoopLemmas.{filtered_more}
use Rattle.au_caps_lists.proofs.entries.push_heads.Goals as goal

pub loop-place-preserved : goal.loop-place-preserved
loop-place-preserved c =
    let program = slots.modules c.args.program.now in
    let r = c.args.reaching.now in
    let start = texts_in c.args.made.now.items in
    let places = c.args.places.now in
    let i = c.loop-place.place-index in
    let place = get_or places i 0 in
    c.in_ok-push_text.ensures
    ∙ ap (λ o. texts_in c.loop-place.made.items ++ option_to_list o) c.head_at.ensures
    ∙ ap (λ l. l ++ option_to_list (head_at program r place)) c.loop-place.invariant
    ∙ append_assoc start (heads_at program r (take i places)) (option_to_list (head_at program r place))
    ∙ ap (λ l. start ++ l) (sym (filtered_more places i place c.loop-place-test.true
    (get_or_default places i 0 place c.loop-place-test.true) (head_at program r)))
