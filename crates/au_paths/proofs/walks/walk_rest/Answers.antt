use Rattle.std.proofs.Common.{◌≡◌, List, [], arith, subst, ◌∙◌, Ok}
use Rattle.std.proofs.lemmas.Result.{err_from_is_err_and}
use Rattle.au_lives.specs.Walks.{walk}
use Rattle.au_paths.specs.Lendings.{Lending, held_within}
use Rattle.au_paths.specs.Seen.{seen_statement}
use Rattle.au_paths.specs.Standing.{reach_of, Stops}
use Rattle.au_paths.proofs.BranchLemmas as lemmas
use Rattle.au_paths.proofs.walks.walk_rest.Goals as goal

pub loop-index-preserved : goal.loop-index-preserved
loop-index-preserved g c =
    let inv = c.loop-index.invariant in
    let x = c.args.x.now in
    record {
      none = c.in_ok-at.ensures.closed ∙ inv.none;
      left =
          lemmas.block_goes g.P.Phase x c.args.sort c.args.block.now.statements.items c.loop-index.index
          c.index-one.result.now c.index-one.ensures
          (omega (arith, c.loop-index-test.true, c.len-index-end.ensures))
          (held_within x c.loop-index.hidden []) (held_within x c.hidden_after-hidden.result [])
          (reach_of c.loop-index.at) (reach_of c.in_ok-at.at) _ inv.left
          (subst
          (λ (b : List Lending). walk x c.args.sort (seen_statement g.P.Phase c.index-one.result.now)
          (held_within x c.loop-index.hidden b) (reach_of c.loop-index.at) ≡ Ok (reach_of c.in_ok-at.at))
          inv.none c.in_ok-at.ensures.gives)
          (c.hidden_after-hidden.ensures []);
    }

pub returns-in_err-at : goal.returns-in_err-at
returns-in_err-at g c =
    let p = err_from_is_err_and c.from_residual.result c.from_residual.ensures.1 in
    let inv = c.loop-index.invariant in
    let x = c.args.x.now in
    rw (p.1, p.2) (lemmas.block_stops g.P.Phase x c.args.sort c.args.block.now.statements.items
    c.loop-index.index c.index-one.result.now c.index-one.ensures
    (omega (arith, c.loop-index-test.true, c.len-index-end.ensures))
    (held_within x c.loop-index.hidden []) (reach_of c.loop-index.at) _ c.in_err-at.field-0.0 inv.left
    (subst
    (λ (b : List Lending). Stops c.in_err-at.field-0.0 (walk x c.args.sort
    (seen_statement g.P.Phase c.index-one.result.now) (held_within x c.loop-index.hidden b)
    (reach_of c.loop-index.at))) inv.none c.in_err-at.ensures.gives))

pub returns : goal.returns
returns g c =
    lemmas.block_ends g.P.Phase c.args.x.now c.args.sort c.args.block.now.statements.items c.loop-index.index
    (omega (arith, c.loop-index-test.false, c.len-index-end.ensures))
    (held_within c.args.x.now c.loop-index.hidden []) (reach_of c.loop-index.at) _ c.loop-index.invariant.left
