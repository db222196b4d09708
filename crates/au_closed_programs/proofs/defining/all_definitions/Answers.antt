use Rattle.std.proofs.Common.{◌≡◌, ℕ, ◌+◌, [], ◌∷◌, ◌++◌, length, ap, subst, sym, ◌∙◌, ⊎_elim}
use Rattle.std.specs.Prelude.{Some, slice_get}
use Rattle.std.proofs.lemmas.List.{length_push}
use Rattle.au_modules.specs.Slots as slots
use Rattle.au_promises.specs.declared.definitions.Definitions.{Definitions}
use Rattle.au_closed_programs.specs.Defined.{AreDefined}
use Rattle.au_closed_programs.proofs.FindingLemmas.{pushed}
use Rattle.au_closed_programs.proofs.defining.all_definitions.Goals as goal

pub loop-place-preserved : goal.loop-place-preserved
loop-place-preserved c =
    let program = slots.modules c.args.program.now in
    let before = c.loop-place.all.items in
    let one = c.in_ok-one.one in
    let each : (k : ℕ) (d : Definitions) → slice_get (before ++ one ∷ []) k ≡ Some d → AreDefined program k d =
    λ k d here. ⊎_elim
    (λ old. c.loop-place.invariant.1 k d old)
    (λ last. subst (λ n. AreDefined program n d) (sym (last.0 ∙ c.loop-place.invariant.0))
    (subst (AreDefined program c.loop-place.place) (sym last.1) c.in_ok-one.ensures))
    (pushed before one d k here) in (
      ap length c.in_ok-push.ensures.items ∙ length_push before one ∙ ap (λ n. n + 1) c.loop-place.invariant.0,
      λ k d here. each k d (ap (λ l. slice_get l k) (sym c.in_ok-push.ensures.items) ∙ here),
    )
