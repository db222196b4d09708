use Rattle.std.proofs.Common.{sym}
use Rattle.au_syntax.specs.contracts.parsed.ParsedPhase.TheImpl.{ghosts as parsed}
use Rattle.au_syntax.specs.Plain.{plain_method}
use Rattle.au_syntax.specs.Views.{method_body}
use Rattle.au_classes.specs.Methods.{is_declared}
use Rattle.au_classes.specs.Views.{headers_of}
use Rattle.au_classes.proofs.ListLemmas.{all_end, all_next, all_not}
use Rattle.au_classes.proofs.methods.all_declared.Goals as goal

pub returns-then-not-is_declared : goal.returns-then-not-is_declared
returns-then-not-is_declared c =
    all_not (plain_method parsed.name_bytes) (method_body parsed)
    (is_declared (headers_of c.args.list.now.items)) c.args.methods.now.items c.deref-one-items.result.now
    c.loop-one.one-index c.one-item.result c.is_declared.result
    c.deref-one-items.ensures.value c.loop-one-test.true c.one-item.is c.loop-one.invariant
    c.is_declared.ensures c.if-not-is_declared.true

pub loop-one-preserved : goal.loop-one-preserved
loop-one-preserved c =
    all_next (plain_method parsed.name_bytes) (method_body parsed)
    (is_declared (headers_of c.args.list.now.items)) c.args.methods.now.items c.deref-one-items.result.now
    c.loop-one.one-index c.one-item.result c.is_declared.result
    c.deref-one-items.ensures.value c.loop-one-test.true c.one-item.is c.loop-one.invariant
    c.is_declared.ensures c.if-not-is_declared.false

pub returns : goal.returns
returns c =
    all_end (plain_method parsed.name_bytes) (method_body parsed)
    (is_declared (headers_of c.args.list.now.items)) c.args.methods.now.items c.deref-one-items.result.now
    c.loop-one.one-index
    c.deref-one-items.ensures.value c.loop-one-test.false c.loop-one.invariant
