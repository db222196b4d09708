use Rattle.std.proofs.Common.{refl, ap, sym, ◌∙◌}
use Rattle.au_clearing.specs.Deals.{stepped, or_alike}
use Rattle.au_clearing.specs.Tables.{find}
use Rattle.au_clearing.proofs.CombiningLemmas.{absorb_step, absorb_end}
use Rattle.au_clearing.proofs.combining.absorb_step.Goals as goal

pub loop-name-init : goal.loop-name-init
loop-name-init c = λ x. refl

pub loop-name-preserved : goal.loop-name-preserved
loop-name-preserved c = λ x.
    absorb_step (stepped c.args.in_loop c.args.returns) c.args.rest c.loop-name.left c.pop.new.self
    c.loop-name.done c.put.new.self c.in-Some.name.items c.in-Some.one c.stepped.result c.in-Some.ensures.found
    c.in-Some.ensures.changes
    (c.stepped.ensures
    ∙ ap (stepped c.args.in_loop c.args.returns c.in-Some.one)
    (c.found_or-old.ensures ∙ ap (λ n. or_alike (find n c.loop-name.done) c.args.rest) c.as_slice.ensures.value))
    c.in_ok-put.ensures x
    ∙ c.loop-name.invariant x

pub returns : goal.returns
returns c = λ x.
    sym (absorb_end (stepped c.args.in_loop c.args.returns) c.args.rest c.loop-name.left c.loop-name.done x
    c.in_default.ensures.none)
    ∙ c.loop-name.invariant x
