use Rattle.std.proofs.Common.{IfOk, subst}
use Rattle.std.specs.Prelude.{◌≡◌, position}
use Rattle.au_promises.specs.Promises.{instance_defined}
use Rattle.au_promises.specs.Written.{name_of, sight_in}
use Rattle.au_syntax.specs.Views.{written}
use Rattle.au_closed_programs.proofs.defining.instance_in.Goals as goal

pub returns : goal.returns
returns c all are =
    let sight = sight_in c.args.sight.now in
    let name = name_of c.args.name.now in
    let t = written c.args.of.now in
    subst (λ s. IfOk c.instance_index.result (λ index. index ≡ position (instance_defined sight s name t) all))
    c.in_ok-scope.ensures (c.instance_index.ensures all are)
