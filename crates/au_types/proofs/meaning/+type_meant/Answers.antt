use Rattle.std.proofs.Common.{List, map, drop, ◌+◌, ap, sym, ◌∙◌}
use Rattle.std.specs.Option.{option_map}
use Rattle.au_types.specs.declared.types.Arg.{Arg}
use Rattle.au_types.specs.Views.{argument, argument_all, meaning}
use Rattle.au_types.specs.Meant.{arguments_meant, followed}
use Rattle.au_types.specs.WrittenViews.{given_in}
use Rattle.au_types.proofs.MeantLemmas.{arguments_unequal, finished, joined, joined_more, joined_start}
use Rattle.au_types.proofs.MeantLemmas.{reference_is, taken}
use Rattle.au_types.proofs.meaning.+type_meant.Goals as goal

pub arguments_meant-returns-then-len : goal.arguments_meant-returns-then-len
arguments_meant-returns-then-len t c =
    let args = c.args.args.now in
    sym (arguments_unequal (given_in c.args.scope.now) args.items c.args.expected.now
    (λ e. c.if-len.true (c.len.ensures ∙ args.ok.0 ∙ e ∙ sym c.len-2.ensures)))

pub arguments_meant-loop-index-init : goal.arguments_meant-loop-index-init
arguments_meant-loop-index-init t c =
    let args = c.args.args.now in
    let all = arguments_meant c.args.expected.now (map (given_in c.args.scope.now) args.items) in
    record {
      lengths = sym args.ok.0 ∙ sym c.len.ensures ∙ c.if-len.false ∙ c.len-2.ensures;
      rest = sym (ap (λ found. option_map (joined (argument_all found)) all) c.new-found.ensures.items
          ∙ joined_start all);
    }

pub arguments_meant-returns-in-None : goal.arguments_meant-returns-in-None
arguments_meant-returns-in-None t c =
    let f = given_in c.args.scope.now in
    let expected = c.args.expected.now in
    let args = c.args.args.now.items in
    let i = c.loop-index.index in
    let before = argument_all c.loop-index.found.items in
    let rest = arguments_meant (drop (i + 1) expected) (map f (drop (i + 1) args)) in
    sym (taken f expected args c.deref-one-items.result.now i c.at.result.now c.one-item.result before
    (option_map argument c.in_ok-arg.field-0)
    c.loop-index.invariant.rest c.at.ensures c.deref-one-items.ensures.value c.loop-index-test.true
    c.one-item.is c.in_ok-arg.ensures
    ∙ ap (λ o. option_map (joined before) (followed (option_map argument o) rest)) c.in-None.is)

pub arguments_meant-loop-index-preserved : goal.arguments_meant-loop-index-preserved
arguments_meant-loop-index-preserved t c =
    let f = given_in c.args.scope.now in
    let expected = c.args.expected.now in
    let args = c.args.args.now.items in
    let i = c.loop-index.index in
    let found = c.loop-index.found.items in
    let rest = arguments_meant (drop (i + 1) expected) (map f (drop (i + 1) args)) in
    record {
      lengths = c.loop-index.invariant.lengths;
      rest =
          taken f expected args c.deref-one-items.result.now i c.at.result.now c.one-item.result
          (argument_all found) (option_map argument c.in_ok-arg.field-0)
          c.loop-index.invariant.rest c.at.ensures c.deref-one-items.ensures.value c.loop-index-test.true
          c.one-item.is c.in_ok-arg.ensures
          ∙ ap (λ o. option_map (joined (argument_all found)) (followed (option_map argument o) rest)) c.in-Some.is
          ∙ joined_more found c.in-Some.arg rest
          ∙ ap (λ xs. option_map (joined (argument_all xs)) rest)
          (sym {A = List Arg} c.in_ok-push-in-Some.ensures.items);
    }

pub arguments_meant-returns : goal.arguments_meant-returns
arguments_meant-returns t c =
    finished (given_in c.args.scope.now) c.args.expected.now c.args.args.now.items
    c.deref-one-items.result.now c.loop-index.index (argument_all c.loop-index.found.items)
    c.loop-index.invariant.lengths c.loop-index.invariant.rest c.deref-one-items.ensures.value c.loop-index-test.false

pub type_meant-returns-in_ok-region-in-Reference : goal.type_meant-returns-in_ok-region-in-Reference
type_meant-returns-in_ok-region-in-Reference t c =
    let scope = c.args.scope.now in
    c.refers.ensures
    ∙ reference_is scope.regions.now scope.params.now scope.names.now scope.heads.now c.args.node.now
    c.in-Reference.field-0 c.in-Reference.access c.in-Reference.target c.deref.result.now
    c.in-Reference.region
    (option_map (λ b. meaning b.value) c.in_ok-to-in-Reference.to) c.in_ok-region-in-Reference.region
    c.in-Reference.is c.deref.ensures c.in_ok-to-in-Reference.ensures c.in_ok-region-in-Reference.ensures
