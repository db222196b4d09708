use Rattle.std.proofs.Common.{◌≡◌, [], ◌∷◌, drop, refl, sym, subst, arith}
use Rattle.std.proofs.lemmas.List.{drop_all}
use Rattle.au_lives.specs.Paths.{bound_name}
use Rattle.au_lives.specs.Scopes.{scope, bound_over}
use Rattle.au_clearing.specs.Seen.{seen_bind, seen_binds}
use Rattle.au_clearing.specs.Deals.{Piles}
use Rattle.au_clearing.proofs.SumLemmas.{piles_none, piles_before}
use Rattle.au_clearing.proofs.declaring.pile_binds.Goals as goal

pub loop-left-init : goal.loop-left-init
loop-left-init g c = record {
  within = omega (arith, c.args.binds.now.ok.0, c.len-left.ensures);
  piles = λ b sums.
      subst
      (λ bs. Piles (bound_over (seen_binds g.P.Phase bs) b) c.args.pile_of.now.items c.args.pile_of.now.items)
      (sym (drop_all c.len-left.result c.args.binds.now.items
      (omega (arith, c.args.binds.now.ok.0, c.len-left.ensures))))
      (piles_none c.args.pile_of.now.items);
}

pub loop-left-preserved : goal.loop-left-preserved
loop-left-preserved g c = record {
  within = omega (arith, c.loop-left.invariant.within);
  piles = λ b sums.
      piles_before (λ bs. bound_over (seen_binds g.P.Phase bs) b)
      (λ bind more. scope (bound_name (seen_bind g.P.Phase bind)) b ∷ []) (λ a rest. refl) c.args.binds.now.items
      c.loop-left.left c.index.result.now c.index.ensures (omega (arith, c.loop-left-test.true))
      c.loop-left.invariant.within c.args.pile_of.now.items c.loop-left.pile_of.items c.pile.new.pile.items
      (c.loop-left.invariant.piles b sums)
      (subst (λ name. Piles (scope name b ∷ []) c.loop-left.pile_of.items c.pile.new.pile.items)
      c.name_of_bind.ensures (c.in_ok-pile.ensures b sums));
}

pub returns : goal.returns
returns g c = λ b sums.
    let none : c.loop-left.left ≡ 0 = omega (arith, c.loop-left-test.false) in
    subst
    (λ n. Piles (bound_over (seen_binds g.P.Phase (drop n c.args.binds.now.items)) b) c.args.pile_of.now.items
    c.loop-left.pile_of.items)
    none (c.loop-left.invariant.piles b sums)
