-- The functions that a derived program closes to are formed.
use Rattle.std.proofs.Common.{◌≡◌, List, Option, Some, None, refl, sym, ap, subst, ◌∙◌, slice_get}
use Rattle.std.specs.Option.{option_map}
use Rattle.std.proofs.lemmas.Option.{slice_get-map}
use Rattle.au_modules.specs.Programs.{ModuleParts}
use Rattle.au_judged_types.specs.Meanings.{written_params}
use Rattle.au_typing.specs.Trees.{NotedParts}
use Rattle.au_lowering.specs.Faults.{IsDerived}
use Rattle.au_typing.specs.Outsides.{outside_of}
use Rattle.au_closing.specs.Bodies.{BodyOf, body_of}
use Rattle.au_closing.specs.Closes.{ClosedFunction, body_closed, change_of, instance_closed}
use Rattle.au_closing.specs.Instances.{Instance}
use Rattle.au_running.specs.Formed.{IsFormed, ClosedFunctionsAreFormed}
use Rattle.au_running.proofs.DerivedLemmas.{bodies_formed}
use Rattle.au_running.proofs.RenotedLemmas.{form_kept}

module _ (program : List ModuleParts) (noted : List NotedParts) (derived : IsDerived program noted)
    (all : List Instance) where
  -- the closed tree of a body that is there is formed
  made_formed : (one : Instance) (o : Option BodyOf) → body_of program noted one.of ≡ o → (f : ClosedFunction)
      → Some (Some f) ≡ Some (option_map (body_closed program noted all one.given) o) → IsFormed f.body
  made_formed one None there f e = absurd cc
  made_formed one (Some body) there f e =
      let same : body_closed program noted all one.given body ≡ f = cc in
      subst (λ (x : ClosedFunction). IsFormed x.body) same
      (form_kept _ _ _ _ (change_of program noted all body.place
      (written_params body.generics) one.given) body.block
      (bodies_formed (outside_of program) program noted derived one.of body there))

  -- so is that of an instance that is there
  instance_formed : (o : Option Instance) (f : ClosedFunction)
      → Some (Some f) ≡ option_map (instance_closed program noted all) o → IsFormed f.body
  instance_formed None f e = absurd cc
  instance_formed (Some one) f e = made_formed one (body_of program noted one.of) refl f e

-- each function of a closed program is formed
pub closed_formed : ClosedFunctionsAreFormed
closed_formed program noted derived entry functions closes number f e =
    instance_formed program noted derived closes.instances (slice_get closes.instances number) f
    (sym (ap (option_map Some) e) ∙ sym (slice_get-map Some functions number)
    ∙ ap (λ l. slice_get l number) closes.closed
    ∙ slice_get-map (instance_closed program noted closes.instances) closes.instances number)
