use Rattle.std.proofs.Common.{refl, sym}
use Rattle.au_lives.specs.Scopes.{scope}
use Rattle.au_clearing.specs.Seen.{seen_name}
use Rattle.au_clearing.proofs.SumLemmas.{pile_one, life_is}
use Rattle.au_clearing.proofs.declaring.pile.Goals as goal

pub returns : goal.returns
returns g c = λ b sums.
    let own = scope (seen_name g.P.Phase c.args.name.now) b in
    pile_one own c.args.pile.now.items c.push.new.self.items _ c.in_ok-push.ensures.items
    (life_is c.args.deals.now own c.bytes_of-bytes.result.now c.found_or-dealings.result _ sums
    (sym c.bytes_of-bytes.ensures.bytes) c.found_or-dealings.ensures refl)
