use Rattle.std.proofs.Common.{◌≡◌, [], ◌∷◌, drop, map, refl, sym, subst, arith}
use Rattle.std.proofs.lemmas.List.{drop_all}
use Rattle.au_lives.specs.Scopes.{scope}
use Rattle.au_clearing.specs.Seen.{seen_name, seen_parameters}
use Rattle.au_clearing.specs.Deals.{Piles}
use Rattle.au_clearing.proofs.SumLemmas.{piles_none, piles_before}
use Rattle.au_clearing.proofs.clearing.pile_parameters.Goals as goal

pub loop-left-init : goal.loop-left-init
loop-left-init g c =
    let fields = c.args.parameters.now in
    let none = sym (drop_all c.len-left.result fields.items (omega (arith, fields.ok.0, c.len-left.ensures))) in
    record {
      within = omega (arith, fields.ok.0, c.len-left.ensures);
      piles = λ b sums.
          subst
          (λ l. Piles (map (λ parameter. scope parameter.name b) (seen_parameters g.P.Phase l))
          c.args.pile_of.now.items c.args.pile_of.now.items)
          none (piles_none c.args.pile_of.now.items);
    }

pub loop-left-preserved : goal.loop-left-preserved
loop-left-preserved g c = record {
  within = omega (arith, c.loop-left.invariant.within);
  piles = λ b sums.
      piles_before (λ l. map (λ parameter. scope parameter.name b) (seen_parameters g.P.Phase l))
      (λ field more. scope (seen_name g.P.Phase field.name) b ∷ []) (λ a rest. refl)
      c.args.parameters.now.items c.loop-left.left c.index.result.now c.index.ensures
      (omega (arith, c.loop-left-test.true)) c.loop-left.invariant.within c.args.pile_of.now.items
      c.loop-left.pile_of.items c.pile.new.pile.items (c.loop-left.invariant.piles b sums)
      (c.in_ok-pile.ensures b sums);
}

pub returns : goal.returns
returns g c = λ b sums.
    let none : c.loop-left.left ≡ 0 = omega (arith, c.loop-left-test.false) in
    subst
    (λ n. Piles
    (map (λ parameter. scope parameter.name b) (seen_parameters g.P.Phase (drop n c.args.parameters.now.items)))
    c.args.pile_of.now.items c.loop-left.pile_of.items)
    none (c.loop-left.invariant.piles b sums)
