use Rattle.std.proofs.Common.{◌≡◌, None, Some, refl, sym, ◌∙◌}
use Rattle.au_types.specs.declared.types.DeclAt.{DeclAt}
use Rattle.au_types.specs.declared.types.Ty.{Ty}
use Rattle.au_types.specs.Views.{meaning}
use Rattle.au_instances.specs.Pairs.{Pair}
use Rattle.au_instances.proofs.PairLemmas.{holds_none, none_holds}
use Rattle.au_instances.proofs.instances.Instances.lacking.Goals as goal

pub returns-in_ok-copy_type-in-Some-clause-holds : goal.returns-in_ok-copy_type-in-Some-clause-holds
returns-in_ok-copy_type-in-Some-clause-holds c =
    let some = c.in-Some.ensures in (
      λ e. absurd (nothing _ e),
      λ h. absurd (apart _ (some ∙ holds_none c.args.self.now c.args.heads.now c.args.scope.now
          c.args.known.now c.is_table.ensures c.args.class (meaning c.args.of.now) h)),
    )
  where
    nothing : (x : DeclAt × Ty) → Some x ≡ None → ⊥
    nothing x e = cc

    apart : (x : Pair) → Some x ≡ None → ⊥
    apart x e = cc

pub returns-in-None-clause-holds : goal.returns-in-None-clause-holds
returns-in-None-clause-holds c = (
  λ e. none_holds c.args.self.now c.args.heads.now c.args.scope.now c.args.known.now c.is_table.ensures
      (meaning c.args.of.now) c.args.class (sym c.in-None.ensures),
  λ h. refl,
)
