use Rattle.std.proofs.Common.{ap, ◌∙◌}
use Rattle.std.specs.Option.{option_map}
use Rattle.au_syntax.specs.contracts.parsed.ParsedPhase.TheImpl.{ghosts as parsed}
use Rattle.au_syntax.specs.Plain.{plain_declaration}
use Rattle.au_syntax.specs.Views.{declaration}
use Rattle.au_promises.specs.Written.{declared_of}
use Rattle.au_classes.specs.Indices.{is_among}
use Rattle.au_classes.specs.Texts.{defined, unless_promised}
use Rattle.au_classes.specs.InstanceViews.{text_said, texts_said}
use Rattle.au_classes.proofs.GatherLemmas.{defined_end, defined_next}
use Rattle.au_classes.proofs.gathering.push_defined.Goals as goal

pub loop-index-preserved : goal.loop-index-preserved
loop-index-preserved c =
    let i = c.loop-index.index in
    let definitions = c.args.definitions.now.items in
    let one = c.index-body-index.result in
    defined_next (plain_declaration parsed.name_bytes) (declaration parsed) definitions c.args.place c.args.before
    (texts_said c.args.list.now.items) (texts_said c.loop-index.list.items)
    (texts_said c.push_text.new.list.items) c.args.body.now i one
    (option_map text_said c.unless_promised.result)
    c.loop-index-test.true c.index-body-index.is c.loop-index.invariant
    (c.unless_promised.ensures
    ∙ ap (λ b. unless_promised b (option_map text_said c.defined.result))
    (c.is_marked.ensures ∙ c.in_ok-marks.ensures i c.loop-index-test.true)
    ∙ ap (unless_promised (is_among i definitions))
    (c.defined.ensures ∙ ap (λ at. defined at (declared_of one)) c.in_ok-at.ensures))
    c.in_ok-push_text.ensures

pub returns : goal.returns
returns c =
    defined_end (plain_declaration parsed.name_bytes) (declaration parsed) c.args.definitions.now.items
    c.args.place c.args.before
    (texts_said c.args.list.now.items) (texts_said c.loop-index.list.items) c.args.body.now c.loop-index.index
    c.loop-index-test.false c.loop-index.invariant
