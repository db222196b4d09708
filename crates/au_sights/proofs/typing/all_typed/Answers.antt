use Rattle.std.proofs.Common.{ap, refl, sym, ◌∙◌}
use Rattle.std.specs.Option.{option_map}
use Rattle.au_modules.specs.Slots as slots
use Rattle.au_syntax.specs.contracts.parsed.ParsedPhase.TheImpl.{ghosts as parsed}
use Rattle.au_syntax.specs.Plain.{plain_labelled}
use Rattle.au_syntax.specs.Views.{labelled}
use Rattle.au_names.specs.Standing.{standing}
use Rattle.au_typing.specs.Written.{all_typed, typed}
use Rattle.au_sights.specs.Sights.{typed_said}
use Rattle.au_sights.proofs.FollowedLemmas.{so_far_all, so_far_next, so_far_none, so_far_stops}
use Rattle.au_sights.proofs.typing.all_typed.Goals as goal

pub loop-one-init : goal.loop-one-init
loop-one-init c = so_far_none (plain_labelled parsed.name_bytes) (labelled parsed)
    (typed (slots.modules c.args.program.now) (standing c.args.found.now) c.args.params.now)
    (all_typed (slots.modules c.args.program.now) (standing c.args.found.now) c.args.params.now) typed_said
    c.deref-one-items.result.now c.new-all.result.items c.new-all.ensures.items

pub returns-in-None : goal.returns-in-None
returns-in-None c =
    so_far_stops (plain_labelled parsed.name_bytes) (labelled parsed)
    (typed (slots.modules c.args.program.now) (standing c.args.found.now) c.args.params.now)
    (all_typed (slots.modules c.args.program.now) (standing c.args.found.now) c.args.params.now) typed_said
    (λ x xs. refl) c.deref-one-items.result.now c.loop-one.one-index c.one-item.result c.loop-one.all.items
    c.loop-one-test.true c.one-item.is c.loop-one.invariant c.args.fields.now.items
    c.deref-one-items.ensures.value (sym (ap (option_map typed_said) c.in-None.is) ∙ c.in_ok-typed.ensures)

pub loop-one-preserved : goal.loop-one-preserved
loop-one-preserved c =
    so_far_next (plain_labelled parsed.name_bytes) (labelled parsed)
    (typed (slots.modules c.args.program.now) (standing c.args.found.now) c.args.params.now)
    (all_typed (slots.modules c.args.program.now) (standing c.args.found.now) c.args.params.now) typed_said
    (λ x xs. refl) c.deref-one-items.result.now c.loop-one.one-index c.one-item.result c.loop-one.all.items
    c.loop-one-test.true c.one-item.is c.loop-one.invariant c.in-Some.made c.push.new.self.items
    (sym (ap (option_map typed_said) c.in-Some.is) ∙ c.in_ok-typed.ensures)
    c.in_ok-push-in-Some.ensures.items

pub returns : goal.returns
returns c =
    so_far_all (plain_labelled parsed.name_bytes) (labelled parsed)
    (typed (slots.modules c.args.program.now) (standing c.args.found.now) c.args.params.now)
    (all_typed (slots.modules c.args.program.now) (standing c.args.found.now) c.args.params.now) typed_said
    refl
    c.args.fields.now.items c.deref-one-items.result.now c.loop-one.one-index c.loop-one.all.items
    c.deref-one-items.ensures.value c.loop-one-test.false c.loop-one.invariant
