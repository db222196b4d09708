-- What was told by an instruction that made no step.
use Rattle.std.proofs.Common.{◌≡◌, refl, ap, ◌∙◌}
use Rattle.std.specs.Prelude.{Bool, true, false, if◌then◌else◌}
use Rattle.au_low.specs.Machines.{LowWorld}
use Rattle.au_stores.specs.declared.worlds.World.{World}
use Rattle.au_stores.specs.declared.answers.Answered.{Answered}
use Rattle.au_stores.specs.declared.answers.Answered.TheVariants.{Gives, Aborts, NoRule}
use Rattle.au_stores.specs.Stores.{world_of}
use Rattle.au_machine.specs.States.{IsQuiet, told, is_nothing}

-- a step was made
pub moved : (still : Bool) (old new : World) → still ≡ false → IsQuiet still old new
moved still old new is = ap (λ (b : Bool). if b then told new else told old) is

-- nothing was told
pub silent : (still : Bool) (old new : World) → told new ≡ told old → IsQuiet still old new
silent true old new is = is
silent false old new is = refl

-- nothing was told before
pub quiet_on : (still : Bool) (old mid new : World) → told mid ≡ told old → IsQuiet still mid new
    → IsQuiet still old new
quiet_on true old mid new is rest = rest ∙ is
quiet_on false old mid new is rest = refl

-- worlds that are the same have the same events
pub told_alike : (old new : World) → new ≡ old → told new ≡ told old
told_alike old new is = ap told is

pub told_same : (old new : World) → world_of new ≡ world_of old → told new ≡ told old
told_same old new is = ap (λ (w : LowWorld). w.deeds) is

-- a shipped call that came to nothing told nothing
pub answered_quiet : (one : Answered) (still : Bool) (old mid new : World)
    → (if still then is_nothing one else true) ≡ true → (one ≡ NoRule → world_of mid ≡ world_of old)
    → IsQuiet still mid new → IsQuiet still old new
answered_quiet (Gives cell) true old mid new is stays rest = let no : false ≡ true = is in cc
answered_quiet (Aborts why) true old mid new is stays rest = let no : false ≡ true = is in cc
answered_quiet NoRule true old mid new is stays rest = rest ∙ told_same old mid (stays refl)
answered_quiet one false old mid new is stays rest = refl
