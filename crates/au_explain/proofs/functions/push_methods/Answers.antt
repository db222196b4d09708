use Rattle.std.proofs.Common.{◌++◌, ◌∷◌, [], ap, map, refl, ◌∙◌}
use Rattle.au_explain.specs.Programs.{method_lives}
use Rattle.au_explain.specs.Said.{generics_said, methods_said}
use Rattle.au_explain.proofs.PutLemmas as puts
use Rattle.au_sights.specs.Sights.{outside_seen}
use Rattle.au_syntax.specs.contracts.parsed.ParsedPhase.TheImpl.{ghosts as parsed}
use Rattle.au_syntax.specs.Views.{method_body}
use Rattle.au_explain.proofs.functions.push_methods.Goals as goal

pub loop-one-preserved : goal.loop-one-preserved
loop-one-preserved c =
    let f = method_lives (outside_seen c.args.outside.now) c.args.owner.now (generics_said c.args.generics.now.items) in
    puts.item_put (λ ms. map f (methods_said ms)) c.deref-one-items.result.now c.loop-one.one-index
    c.one-item.result c.one-item.is c.loop-one-test.true
    (f (method_body parsed c.one-item.result) ∷ []) c.loop-one.made.items c.push_function.new.made.items _
    refl c.loop-one.invariant c.in_ok-push_function.ensures

pub returns : goal.returns
returns c =
    let f = method_lives (outside_seen c.args.outside.now) c.args.owner.now (generics_said c.args.generics.now.items) in
    puts.items_put (λ ms. map f (methods_said ms)) c.deref-one-items.result.now c.loop-one.one-index
    c.loop-one-test.false c.loop-one.made.items _ refl c.loop-one.invariant
    ∙ ap (λ ms. c.args.made.now.items ++ map f (methods_said ms)) c.deref-one-items.ensures.value
