use Rattle.std.proofs.Common.{◌++◌, ap, refl, ◌∙◌}
use Rattle.std.specs.List.{flat_map}
use Rattle.au_formed.specs.Said.{spot_said, spots_said}
use Rattle.au_formed.specs.Text.{text}
use Rattle.au_formed.proofs.TextLemmas.{said_among, spot_within}
use Rattle.au_explain.specs.Programs.{spot_lives}
use Rattle.au_explain.proofs.PutLemmas as puts
use Rattle.au_modules.specs.Slots as slots
use Rattle.au_explain.proofs.programs.push_spots.Goals as goal

pub push_spot-requires-clause-place : goal.push_spot-requires-clause-place
push_spot-requires-clause-place c =
    let program = slots.modules c.args.resolved.now in
    let one = c.one-item.result in
    spot_within program (spot_said one)
    (said_among spot_said c.deref-one-items.result.now (text program) c.loop-one.one-index one
    (ap spots_said c.deref-one-items.ensures.value ∙ c.requires.all) c.loop-one-test.true c.one-item.is)

pub loop-one-preserved : goal.loop-one-preserved
loop-one-preserved c =
    let f = spot_lives (slots.modules c.args.resolved.now) in
    puts.item_put (λ ss. flat_map f (spots_said ss)) c.deref-one-items.result.now c.loop-one.one-index
    c.one-item.result c.one-item.is c.loop-one-test.true
    (f (spot_said c.one-item.result)) c.loop-one.made.items c.push_spot.new.made.items _ refl
    c.loop-one.invariant c.in_ok-push_spot.ensures

pub returns : goal.returns
returns c =
    let f = spot_lives (slots.modules c.args.resolved.now) in
    puts.items_put (λ ss. flat_map f (spots_said ss)) c.deref-one-items.result.now c.loop-one.one-index
    c.loop-one-test.false c.loop-one.made.items _ refl c.loop-one.invariant
    ∙ ap (λ ss. c.args.made.now.items ++ flat_map f (spots_said ss)) c.deref-one-items.ensures.value
    ∙ ap (λ all. c.args.made.now.items ++ flat_map f all) c.requires.all
