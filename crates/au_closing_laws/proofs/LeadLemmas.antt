-- The calls of gathered programs, and so of accepted ones, are typed, and each call of a reached instance
-- leads somewhere.
use Rattle.std.proofs.Common.{◌≡◌, ℕ, List, [], ◌∷◌, Some, sym, ◌∙◌, subst}
use Rattle.std.specs.Prelude.{Contains}
use Rattle.std.proofs.lemmas.Option.{same_Some}
use Rattle.au_base.specs.Outside.{Files}
use Rattle.au_syntax.specs.declared.modules.Part.TheVariants.{Body}
use Rattle.au_modules.specs.Programs.{ModuleParts}
use Rattle.au_classes.specs.Good.{InstancesAreGood}
use Rattle.au_imports.specs.Good.{AllNamesAreGood}
use Rattle.au_promises.specs.Fulfilled.{AllFulfil}
use Rattle.au_rules.specs.Good.{AllDeclarationsAreGood}
use Rattle.au_typing.specs.Trees.{NotedParts}
use Rattle.au_accepted.specs.Faults.{IsDerived}
use Rattle.au_accepted.specs.Accepted.{AreAcceptedAs}
use Rattle.au_accepted.specs.Programs.{program_modules}
use Rattle.au_accepted.specs.Trees.{ReadFile}
use Rattle.au_graphs.specs.Reached.{Reached}
use Rattle.au_closing.specs.Bodies.{BodyOf, body_of}
use Rattle.au_closing.specs.Closes.{calls_of}
use Rattle.au_closing.specs.Instances.{Instance, same_instance}
use Rattle.au_closing.specs.Leading.{call_leads}
use Rattle.au_closing_laws.specs.Gathered.{IsGathered}
use Rattle.au_closing_laws.specs.Sound.{IsSomewhere}
use Rattle.au_closing_laws.specs.Standing.{FieldsStand, OwnTypesStand, SeenStands}
use Rattle.au_closing_laws.specs.Targets.{Call, IsEntry, IsTyped, calls_listed}
use Rattle.au_closing_laws.proofs.AcceptedLemmas.{accepted_gathered}
use Rattle.au_closing_laws.proofs.FactLemmas.{functions_hold, parts_hold}
use Rattle.au_closing_laws.proofs.FieldLemmas.{fields_hold}
use Rattle.au_closing_laws.proofs.MethodLemmas.{methods_hold}
use Rattle.au_closing_laws.proofs.OutsideStandLemmas.{outside_stands}
use Rattle.au_closing_laws.proofs.OwnTypeLemmas.{own_types_hold}
use Rattle.au_closing_laws.proofs.PutStandLemmas.{put_types_stand}
use Rattle.au_closing_laws.proofs.SoundLemmas.{call_somewhere, reached_sound}
use Rattle.au_closing_laws.proofs.TypedLemmas.{program_typed}

pub gathered_fields : (program : List ModuleParts) → IsGathered program → AllNamesAreGood program →
    AllFulfil program → FieldsStand program
gathered_fields program gathered named promises =
    fields_hold program (parts_hold program gathered) (record { names = named; promises = promises })

pub gathered_own : (program : List ModuleParts) → IsGathered program → AllNamesAreGood program →
    AllDeclarationsAreGood program → AllFulfil program → OwnTypesStand program
gathered_own program gathered named declared promises =
    own_types_hold program (parts_hold program gathered) (record { names = named; promises = promises }) declared.once

pub gathered_seen : (program : List ModuleParts) → IsGathered program → AllNamesAreGood program →
    AllDeclarationsAreGood program → AllFulfil program → SeenStands program
gathered_seen program gathered named declared promises place =
    outside_stands program (gathered_own program gathered named declared promises)
    (gathered_fields program gathered named promises) place Body

pub gathered_typed : (program : List ModuleParts) (noted : List NotedParts) → IsGathered program →
    IsDerived program noted → AllDeclarationsAreGood program → InstancesAreGood program → AllFulfil program
    → SeenStands program → IsTyped program noted
gathered_typed program noted gathered derived declared instances promises seen =
    program_typed program noted derived declared instances promises (record {
      parts = parts_hold program gathered;
      functions = functions_hold program gathered;
      methods = methods_hold program noted derived declared instances promises gathered;
      standing = put_types_stand program noted derived declared seen;
    })

module _ (files : Files) (names all : List (List ℕ)) (reads : List ReadFile)
    (accepted : AreAcceptedAs files names all reads) where
  abbrev gathered : IsGathered (program_modules reads)
  gathered = accepted_gathered files names all reads accepted

  accepted_seen : SeenStands (program_modules reads)
  accepted_seen = gathered_seen (program_modules reads) gathered accepted.named accepted.declared accepted.kept

  pub accepted_typed : IsTyped (program_modules reads) accepted.noted
  accepted_typed =
      gathered_typed (program_modules reads) accepted.noted gathered accepted.derives accepted.declared
      accepted.instances accepted.kept accepted_seen

  pub accepted_leads : (entry : Instance) → IsEntry (program_modules reads) accepted.noted entry
      → (one : Instance) → Reached same_instance (calls_of (program_modules reads) accepted.noted) (entry ∷ []) one
      → (body : BodyOf) → body_of (program_modules reads) accepted.noted one.of ≡ Some body → (call : Call) →
      Contains (calls_listed body.block) call
      → IsSomewhere (program_modules reads) accepted.noted
      (call_leads (program_modules reads) body.place one.given call.0 call.1)
  accepted_leads entry is one reached body there call listed =
      let typed = accepted_typed in
      let sound = reached_sound (program_modules reads) accepted.noted typed entry is one reached in
      let same = same_Some sound.body body (sym sound.there ∙ there) in
      subst (λ (b : BodyOf). IsSomewhere (program_modules reads) accepted.noted
      (call_leads (program_modules reads) b.place one.given call.0 call.1)) same
      (call_somewhere (program_modules reads) accepted.noted typed one sound call
      (subst (λ (b : BodyOf). Contains (calls_listed b.block) call) (sym same) listed))
