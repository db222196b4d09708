use Rattle.std.proofs.Common.{ap, refl, sym, ◌∙◌}
use Rattle.std.specs.Option.{option_map}
use Rattle.au_modules.specs.Slots as slots
use Rattle.au_syntax.specs.contracts.parsed.ParsedPhase.TheImpl.{ghosts as parsed}
use Rattle.au_syntax.specs.Plain.{plain_variant}
use Rattle.au_syntax.specs.Views.{variant}
use Rattle.au_names.specs.Standing.{standing}
use Rattle.au_sights.specs.Sights.{case_said}
use Rattle.au_sights.specs.Steps.{case_by, cases_by}
use Rattle.au_sights.proofs.FollowedLemmas.{so_far_all, so_far_next, so_far_none, so_far_stops}
use Rattle.au_sights.proofs.insides.cases_by.Goals as goal

pub loop-one-init : goal.loop-one-init
loop-one-init c = so_far_none (plain_variant parsed.name_bytes) (variant parsed)
    (case_by (slots.modules c.args.program.now) (standing c.args.found.now) c.args.params.now c.args.s.now
    c.args.at) (cases_by (slots.modules c.args.program.now) (standing c.args.found.now) c.args.params.now
    c.args.s.now c.args.at) case_said c.deref-one-items.result.now c.new-all.result.items
    c.new-all.ensures.items

pub returns-in-None : goal.returns-in-None
returns-in-None c =
    so_far_stops (plain_variant parsed.name_bytes) (variant parsed)
    (case_by (slots.modules c.args.program.now) (standing c.args.found.now) c.args.params.now c.args.s.now
    c.args.at) (cases_by (slots.modules c.args.program.now) (standing c.args.found.now) c.args.params.now
    c.args.s.now c.args.at) case_said (λ x xs. refl) c.deref-one-items.result.now c.loop-one.one-index
    c.one-item.result c.loop-one.all.items c.loop-one-test.true c.one-item.is c.loop-one.invariant
    c.args.cases.now.items c.deref-one-items.ensures.value
    (sym (ap (option_map case_said) c.in-None.is) ∙ c.in_ok-case_by.ensures)

pub loop-one-preserved : goal.loop-one-preserved
loop-one-preserved c =
    so_far_next (plain_variant parsed.name_bytes) (variant parsed)
    (case_by (slots.modules c.args.program.now) (standing c.args.found.now) c.args.params.now c.args.s.now
    c.args.at) (cases_by (slots.modules c.args.program.now) (standing c.args.found.now) c.args.params.now
    c.args.s.now c.args.at) case_said (λ x xs. refl) c.deref-one-items.result.now c.loop-one.one-index
    c.one-item.result c.loop-one.all.items c.loop-one-test.true c.one-item.is c.loop-one.invariant
    c.in-Some.made c.push.new.self.items
    (sym (ap (option_map case_said) c.in-Some.is) ∙ c.in_ok-case_by.ensures)
    c.in_ok-push-in-Some.ensures.items

pub returns : goal.returns
returns c =
    so_far_all (plain_variant parsed.name_bytes) (variant parsed)
    (case_by (slots.modules c.args.program.now) (standing c.args.found.now) c.args.params.now c.args.s.now
    c.args.at) (cases_by (slots.modules c.args.program.now) (standing c.args.found.now) c.args.params.now
    c.args.s.now c.args.at) case_said refl
    c.args.cases.now.items c.deref-one-items.result.now c.loop-one.one-index c.loop-one.all.items
    c.deref-one-items.ensures.value c.loop-one-test.false c.loop-one.invariant
