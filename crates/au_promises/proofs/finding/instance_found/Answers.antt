use Rattle.std.proofs.Common.{ap, ◌∙◌}
use Rattle.std.specs.Prelude.{position}
use Rattle.au_syntax.specs.Views.{written}
use Rattle.au_promises.specs.Agreeing.{scope_of}
use Rattle.au_promises.specs.Promises.{instance_defined}
use Rattle.au_promises.specs.Written.{declarations_of, generics_of, name_of, sight_in}
use Rattle.au_promises.proofs.DefinitionLemmas.{first_missing, first_there}
use Rattle.au_promises.proofs.finding.instance_found.Goals as goal

pub returns-in-None : goal.returns-in-None
returns-in-None c =
    let sight = sight_in c.args.sight.now in
    let name = name_of c.args.name.now in
    let t = written c.args.of.now in
    let all = declarations_of c.args.decls.now.items in
    first_missing (instance_defined sight (scope_of (generics_of c.args.list.now.items)) name t)
    all c.in_ok-index.index
    (c.in_ok-index.ensures all c.requires
    ∙ ap (λ s. position (instance_defined sight s name t) all) c.in_ok-scope.ensures)
    c.in-None.is

pub returns : goal.returns
returns c =
    let sight = sight_in c.args.sight.now in
    let name = name_of c.args.name.now in
    let t = written c.args.of.now in
    let all = declarations_of c.args.decls.now.items in
    c.declared_at.ensures
    ∙ first_there (instance_defined sight (scope_of (generics_of c.args.list.now.items)) name t)
    all c.in_ok-index.index c.in-Some.at
    (c.in_ok-index.ensures all c.requires
    ∙ ap (λ s. position (instance_defined sight s name t) all) c.in_ok-scope.ensures)
    c.in-Some.is
