use Rattle.std.proofs.Common.{◌≡◌, true, bytes_eq, sym, ◌∙◌}
use Rattle.au_closing.specs.Bodies.{is_method}
use Rattle.au_sights.specs.contracts.noted.NotedPhase.TheImpl.{ghosts as noted}
use Rattle.au_syntax.specs.Views.{method_body}
use Rattle.au_closed_programs.proofs.FindingLemmas.{found_here, found_nowhere}
use Rattle.au_closed_programs.proofs.bodies.method_named.Goals as goal

pub returns : goal.returns
returns c =
    found_nowhere (method_body noted) (is_method c.args.name.now) c.args.methods.now.items
    c.deref-one-items.result.now c.loop-one.one-index c.deref-one-items.ensures.value c.loop-one-test.false
    c.loop-one.invariant

pub returns-then-eq : goal.returns-then-eq
returns-then-eq c =
    let name = c.args.name.now in
    let one = c.one-item.result in
    let is : is_method name (method_body noted one) ≡ true =
    (λ i. bytes_eq (sym c.as_bytes.ensures i) (sym c.as_bytes-in-loop-one.ensures.bytes i))
    ∙ sym c.eq.ensures ∙ c.if-eq.true in
    found_here (method_body noted) (is_method name) c.deref-one-items.result.now c.loop-one.one-index one
    c.loop-one-test.true c.one-item.is c.loop-one.invariant c.args.methods.now.items
    c.deref-one-items.ensures.value is
