use Rattle.std.proofs.Common.{ap, ◌∙◌}
use Rattle.std.specs.Option.{option_map}
use Rattle.au_syntax.specs.contracts.parsed.ParsedPhase.TheImpl.{ghosts as parsed}
use Rattle.au_syntax.specs.Plain.{plain_declaration}
use Rattle.au_syntax.specs.Views.{declaration}
use Rattle.au_promises.specs.Written.{declarations_of, declared_of}
use Rattle.au_classes.specs.Texts.{declared_at, methods_at, promised}
use Rattle.au_classes.specs.InstanceViews.{methods_seen, text_said, texts_said}
use Rattle.au_classes.proofs.GatherLemmas.{promised_end, promised_next}
use Rattle.au_classes.proofs.gathering.push_promised.Goals as goal

pub loop-number-preserved : goal.loop-number-preserved
loop-number-preserved c =
    let place = c.args.place in
    let i = c.loop-number.number in
    let body = declarations_of c.args.body.now in
    let one = c.index-interface-number.result in
    promised_next (plain_declaration parsed.name_bytes) (declaration parsed) body c.args.definitions.now.items place
    (texts_said c.args.list.now.items) (texts_said c.loop-number.list.items)
    (texts_said c.push_text.new.list.items) c.args.interface.now i one
    (option_map text_said c.promised.result)
    c.loop-number-test.true c.index-interface-number.is c.loop-number.invariant
    (c.promised.ensures
    ∙ ap (λ at. promised at (methods_seen c.methods_at-methods.result) (declared_of one)) c.in_ok-at.ensures
    ∙ ap (λ methods. promised (declared_at place i) methods (declared_of one))
    (c.methods_at-methods.ensures ∙ ap (methods_at body) c.definition_at.ensures))
    c.in_ok-push_text.ensures

pub returns : goal.returns
returns c =
    promised_end (plain_declaration parsed.name_bytes) (declaration parsed) (declarations_of c.args.body.now)
    c.args.definitions.now.items c.args.place
    (texts_said c.args.list.now.items) (texts_said c.loop-number.list.items) c.args.interface.now
    c.loop-number.number c.loop-number-test.false c.loop-number.invariant
