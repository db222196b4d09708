-- Calls of shipped functions in the bodies of a checked program.
use Rattle.std.proofs.Common.{ℕ, Bool, List, ◌++◌, refl, sym, subst}
use Rattle.au_syntax.specs.Plain.{Bytes}
use Rattle.au_types.specs.declared.parameters.Parameter.{Parameter}
use Rattle.au_matching.specs.Bindings.{Bindings}
use Rattle.au_type_texts.specs.Given.{Given}
use Rattle.au_modules.specs.Programs.{ModuleParts}
use Rattle.au_names.proofs.AmongLemmas.{Among}
use Rattle.au_judged_bodies.specs.Notes.{Note}
use Rattle.au_judged_bodies.specs.Trees.{NotedParts}
use Rattle.au_judged_bodies.specs.Tables.{types_of}
use Rattle.au_judged_bodies.specs.Generic.{view_under}
use Rattle.au_owners.specs.Owners.{owner_of}
use Rattle.au_judged_bodies.specs.Sights.{CallIsSeen}
use Rattle.au_judged_bodies.specs.Functions.{BodyRuns}
use Rattle.au_judged_bodies.specs.Keys.{ways}
use Rattle.au_judged_programs.specs.Programs.{ShippedAreSeen}
use Rattle.au_judged_programs.specs.ShippedCalls.{ShippedOfProgramsAreSeen}
use Rattle.au_judged_programs.proofs.BirthLemmas.{IsOfShipped}
use Rattle.au_judged_programs.proofs.ShippedFrontLemmas.{HasFront, front, has_front}
use Rattle.au_judged_programs.proofs.ShippedRunLemmas.{SeenAs, all_seen}
use Rattle.au_judged_programs.proofs.ShippedSignatureLemmas.{signed_so}

module _ (noted : List NotedParts) where
  -- calls of shipped functions are seen in the bodies of a program
  abbrev SeenIn : List ModuleParts → Type 0
  SeenIn program =
      (place : ℕ) (params : List Parameter) (regions : List Bytes) (given : Given) (s : Bindings) (z : ℕ)
      (active : ℕ → Bool) → BodyRuns program params regions given s z active
      → ShippedAreSeen program noted place params regions given s z active

  seen_behind : (rest : List ModuleParts) → ((m : ModuleParts) → Among m rest → IsOfShipped m.name → ⊥)
      → SeenIn (front ++ rest)
  seen_behind rest others place params regions given s z active runs note name target d called put declared call leads
      is means found declares well notes of puts =
      subst (λ (n : Note). CallIsSeen (types_of (front ++ rest)) (owner_of (front ++ rest))
      (view_under (front ++ rest) noted place params given) (ways (front ++ rest) noted) active s z n name called put)
      (λ i. record { mode = note.mode; of = sym of i; call = sym notes i })
      (subst
      (SeenAs rest noted place params regions given s z active runs name target d means found note.mode put declared
      call)
      (signed_so (front ++ rest) has target d called declared _ call found leads is declares)
      (all_seen rest noted place params regions given s z active runs name target d means found note.mode put declared
      call)
      (record { leads = leads; is = is; apart = well.apart; puts = puts }))
    where
      has : HasFront (front ++ rest)
      has = record { rest = rest; whole = refl; others = others }

pub shipped_seen : (program : List ModuleParts) (noted : List NotedParts) → ShippedOfProgramsAreSeen program noted
shipped_seen program noted checked =
    let has = has_front program noted checked in
    subst (SeenIn noted) (sym has.whole) (seen_behind noted has.rest has.others)
