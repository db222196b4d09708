use Rattle.std.proofs.Common.{ap, sym, ◌∙◌}
use Rattle.std.specs.Prelude.{position}
use Rattle.au_syntax.specs.Views.{written}
use Rattle.au_promises.specs.declared.keys.KeySort.TheVariants.{Worded, Meaningless}
use Rattle.au_promises.specs.Defining.{earlier, has_key, key_defined}
use Rattle.au_promises.specs.Keys.{class_key, instance_key}
use Rattle.au_promises.specs.Promises.{instance_defined}
use Rattle.au_promises.specs.Written.{name_of, sight_in}
use Rattle.au_promises.proofs.DefinitionLemmas.{position_alike, position_either}
use Rattle.au_promises.proofs.KeyLemmas.{meant_defined, nothing_defined}
use Rattle.au_promises.proofs.finding.instance_index.Goals as goal

-- for a type that means nothing
pub returns : goal.returns
returns c all are =
    let sight = sight_in c.args.sight.now in
    let scope = c.args.scope.now in
    let name = name_of c.args.name.now in
    let t = written c.args.of.now in
    let key = instance_key scope sight.interface sight.rows name t in
    let class = class_key sight.interface name in
    let worded = has_key (key_defined Worded sight) key in
    let meaningless = has_key (key_defined Meaningless sight) class in
    c.earlier.ensures
    ∙ ap (λ o. earlier o c.in_ok-meaningless.meaningless) (c.in_ok-worded.ensures ∙ are.worded key)
    ∙ ap (earlier (position worded all)) (c.in_ok-meaningless.ensures ∙ are.meaningless class)
    ∙ position_either worded meaningless (instance_defined sight scope name t)
    (nothing_defined sight scope name t (sym c.in_ok-nothing.ensures ∙ c.if-not-nothing.false)) all

-- for one that means something
pub returns-then-not-nothing : goal.returns-then-not-nothing
returns-then-not-nothing c all are =
    let sight = sight_in c.args.sight.now in
    let scope = c.args.scope.now in
    let name = name_of c.args.name.now in
    let t = written c.args.of.now in
    let key = instance_key scope sight.interface sight.rows name t in
    c.in_ok-worded.ensures
    ∙ are.worded key
    ∙ position_alike (has_key (key_defined Worded sight) key) (instance_defined sight scope name t)
    (meant_defined sight scope name t (sym c.in_ok-nothing.ensures ∙ c.if-not-nothing.true)) all
