use Rattle.std.proofs.Common.{◌≡◌, IfOk, length, sym, subst, ◌∙◌}
use Rattle.std.proofs.lemmas.Bool.{eqb-true}
use Rattle.au_types.proofs.MeantLemmas.{region_alone}
use Rattle.au_types.proofs.meaning.region_meant.Goals as goal

pub returns-then-is_empty : goal.returns-then-is_empty
returns-then-is_empty c =
    let scope = c.args.scope.now in
    let args = c.in-Named.args in
    let none : length args.items ≡ 0 = sym args.ok.0
    ∙ eqb-true args.len 0 (sym c.is_empty.ensures ∙ c.if-is_empty.true) in
    subst (λ r. IfOk c.region_named.result (λ found. found ≡ r))
    (region_alone scope.regions.now scope.params.now scope.names.now scope.heads.now c.args.node.now
    c.in-Named.name args c.in-Named.is none)
    c.region_named.ensures
