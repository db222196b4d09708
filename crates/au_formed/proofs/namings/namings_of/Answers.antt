use Rattle.std.proofs.Common.{◌++◌, sym, ap, ◌∙◌}
use Rattle.std.specs.Prelude.{option_to_list}
use Rattle.au_names.specs.Walks as walks
use Rattle.au_modules.specs.Slots as slots
use Rattle.au_formed.specs.Naming.{naming, naming_at}
use Rattle.au_formed.specs.Said.{spot_said, spots_said}
use Rattle.au_formed.specs.Text.{text, visible_at}
use Rattle.au_formed.proofs.TextLemmas.{kept_more, said_among, spot_within}
use Rattle.au_formed.proofs.namings.namings_of.Goals as goal

pub visible_at-visible-requires : goal.visible_at-visible-requires
visible_at-visible-requires c =
    let program = slots.modules c.args.resolved.now in
    let items = c.deref-one-items.result.now in
    let one = c.one-item.result in
    spot_within program (spot_said one)
    (said_among spot_said items (text program) c.loop-one.one-index one
    (ap spots_said c.deref-one-items.ensures.value ∙ c.requires) c.loop-one-test.true c.one-item.is)

pub loop-one-preserved : goal.loop-one-preserved
loop-one-preserved c =
    let program = slots.modules c.args.resolved.now in
    let items = c.deref-one-items.result.now in
    let one = c.one-item.result in
    let list = c.loop-one.list.items in
    let says = walks.written one.decl.now in
    let seen = c.visible_at-visible.result in
    c.in_ok-push_naming.ensures
    ∙ ap (λ names. list ++ option_to_list
    (naming names seen.heads.now says)) c.visible_at-visible.ensures.names
    ∙ ap (λ heads. list ++ option_to_list
    (naming (visible_at program (spot_said one)) heads says)) c.visible_at-visible.ensures.heads
    ∙ ap (λ l. l ++ option_to_list (naming_at program (spot_said one))) c.loop-one.invariant
    ∙ sym (kept_more spot_said
    (naming_at program) items c.loop-one.one-index one c.loop-one-test.true c.one-item.is)
