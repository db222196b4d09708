-- Whole expressions of one type.
use Rattle.std.proofs.Common.{◌≡◌, ℕ, List, ◌∷◌, Option, refl, subst}
use Rattle.au_type_texts.specs.Types.{ClosedType}
use Rattle.au_types.specs.Types.{Meaning}
use Rattle.au_memory.specs.Loans.{Types}
use Rattle.au_meaning.specs.Expressions.{whole}
use Rattle.au_meaning.specs.Ticks.{Action}
use Rattle.au_meaning.specs.Views.{View}
use Rattle.au_meaning.specs.Worlds.{Value}
use Rattle.au_running_judgements.specs.Good.{IsIn, lying_in}
use Rattle.au_running_judgements.specs.Held.{Permits}
use Rattle.au_running_judgements.proofs.GoodLemmas.{good_so}
use Rattle.au_running_judgements.specs.Known.{Callables}
use Rattle.au_running_judgements.specs.Lives.{spent}
use Rattle.au_running_judgements.specs.Uses.{uses}
use Rattle.au_sound_expressions.specs.Laws.{ExpressionsAreSafe}
use Rattle.au_sound_expressions.specs.Safe.{frame}
use Rattle.au_sound_expressions.proofs.WholeLemmas.{Gave, whole_safe}

pub expressions_safe : (types : Types) (owner : ClosedType → Option (List ℕ)) {V W : Type 0}
    (permits : Permits V W) {I T C K : Type 0} (see : View I T C) (known : Callables I K)
    (invoke : I → List Value → Action Value)
    → ExpressionsAreSafe types owner permits see known invoke
expressions_safe types owner permits see known invoke laws way ways calls_safe acts names fs sizes size running waiting
    scope e t h under w ticks fits met waits state =
    good_so owner _
    (Gave types owner permits way ways laws acts names fs sizes size running see known invoke calls_safe waiting
    (λ (u : Meaning). u ≡ t)
    (λ k. spent (uses see k scope e).consumed (h k)) under (lying_in w))
    (λ (v : Value) n.
    IsIn types owner acts (frame (λ k. spent (uses see k scope e).consumed (h k)) names ∷ fs) sizes ((v, t) ∷ under) n
    × (lying_in n ≡ lying_in w)) (whole see invoke scope e w ticks)
    (λ v n gave. (
      subst (λ (u : Meaning).
          IsIn types owner acts (frame (λ k. spent (uses see k scope e).consumed (h k)) names ∷ fs) sizes
          ((v, u) ∷ under) n)
          gave.is gave.state,
      gave.same,
    ))
    (whole_safe types owner permits way ways laws acts names fs sizes size running see known invoke calls_safe waiting
    (λ (u : Meaning). u ≡ t) scope e h under w ticks (λ z off. (t, refl, fits z off)) met waits state)
