use Rattle.std.proofs.Common.{ap, sym, ◌∙◌}
use Rattle.au_syntax.specs.contracts.parsed.ParsedPhase.TheImpl.{ghosts as parsed}
use Rattle.au_syntax.specs.Plain.{plain_header}
use Rattle.au_syntax.specs.Views.{header}
use Rattle.au_types.specs.WrittenViews.{meant_in}
use Rattle.au_promises.specs.Written.{header_of}
use Rattle.au_classes.specs.InstanceViews.{methods_of}
use Rattle.au_classes.specs.Methods.{has_signature, is_defined}
use Rattle.au_classes.specs.Views.{wanted_in}
use Rattle.au_classes.proofs.ListLemmas.{all_end, all_next, all_not}
use Rattle.au_classes.proofs.methods.all_defined.Goals as goal

pub returns-then-not-branch : goal.returns-then-not-branch
returns-then-not-branch c =
    let wanted = wanted_in c.args.class.now c.args.s.now in
    let given = meant_in c.args.own.now in
    all_not (plain_header parsed.name_bytes) (header parsed)
    (is_defined wanted given (methods_of c.args.methods.now.items)) c.args.list.now.items
    c.deref-one-items.result.now c.loop-one.one-index c.one-item.result c.in_ok-has_signature.field-0
    c.deref-one-items.ensures.value c.loop-one-test.true c.one-item.is c.loop-one.invariant
    (c.in_ok-has_signature.ensures ∙ ap (has_signature wanted given (header_of c.one-item.result))
    c.method_named-found.ensures) c.if-not-branch.true

pub loop-one-preserved : goal.loop-one-preserved
loop-one-preserved c =
    let wanted = wanted_in c.args.class.now c.args.s.now in
    let given = meant_in c.args.own.now in
    all_next (plain_header parsed.name_bytes) (header parsed)
    (is_defined wanted given (methods_of c.args.methods.now.items)) c.args.list.now.items
    c.deref-one-items.result.now c.loop-one.one-index c.one-item.result c.in_ok-has_signature.field-0
    c.deref-one-items.ensures.value c.loop-one-test.true c.one-item.is c.loop-one.invariant
    (c.in_ok-has_signature.ensures ∙ ap (has_signature wanted given (header_of c.one-item.result))
    c.method_named-found.ensures) c.if-not-branch.false

pub returns : goal.returns
returns c =
    all_end (plain_header parsed.name_bytes) (header parsed)
    (is_defined (wanted_in c.args.class.now c.args.s.now) (meant_in c.args.own.now)
    (methods_of c.args.methods.now.items)) c.args.list.now.items c.deref-one-items.result.now
    c.loop-one.one-index
    c.deref-one-items.ensures.value c.loop-one-test.false c.loop-one.invariant
