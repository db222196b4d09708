use Rattle.std.proofs.Common.{◌≡◌, List, ap, ◌∙◌}
use Rattle.std.specs.Prelude.{position}
use Rattle.std.proofs.lemmas.Iterator.Adapters.{position_from-zero}
use Rattle.au_types.specs.declared.parameters.Parameter.{Parameter}
use Rattle.std.proofs.lemmas.Result.{IfOk-weaker}
use Rattle.au_syntax.specs.Views.{written}
use Rattle.au_promises.specs.Agreeing.{scope_of}
use Rattle.au_promises.specs.Promises.{instance_defined}
use Rattle.au_promises.specs.Written.{generics_of, name_of, sight_in}
use Rattle.au_classes.specs.Indices.{first_index}
use Rattle.au_classes.proofs.definitions.index_of.Goals as goal

pub returns : goal.returns
returns c = λ all are.
    let sight = sight_in c.args.sight.now in
    let name = name_of c.args.name.now in
    let t = written c.args.of.now in
    let defined = λ (s : List Parameter). instance_defined sight s name t in
    IfOk-weaker c.instance_index.result
    (λ index. index ≡ position (defined c.in_ok-scope.scope) all)
    (λ index. index ≡ first_index (defined (scope_of (generics_of c.args.list.now.items))) all)
    (λ index is. is ∙ ap (λ s. position (defined s) all) c.in_ok-scope.ensures
    ∙ position_from-zero (defined (scope_of (generics_of c.args.list.now.items))) all)
    (c.instance_index.ensures all are)
