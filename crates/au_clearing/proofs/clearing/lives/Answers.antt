use Rattle.std.proofs.Common.{map}
use Rattle.au_lives.specs.Scopes.{scope, scopes, scopes_of}
use Rattle.au_clearing.specs.Seen.{seen_block, seen_parameters}
use Rattle.au_clearing.proofs.SumLemmas.{piles_then, piles_all}
use Rattle.au_clearing.proofs.clearing.lives.Goals as goal

pub returns : goal.returns
returns g c =
    let body = seen_block g.P.Phase c.args.body.now in
    let parameters = seen_parameters g.P.Phase c.args.parameters.now.items in
    piles_all (scopes_of parameters body) c.new-found.result.items c.pile_parameters.new.pile_of.items
    c.new-found.ensures.items
    (piles_then (map (λ parameter. scope parameter.name body) parameters) (scopes body) c.new-found.result.items
    c.deals_of_block.new.pile_of.items c.pile_parameters.new.pile_of.items c.in_ok-deals.ensures.piles
    (c.in_ok-pile_parameters.ensures body c.in_ok-deals.ensures.seen))
