-- The types of calls of shipped functions that give birth are declared ones.
use Rattle.std.proofs.Common.{◌≡◌, List, None, Some, refl, subst}
use Rattle.std.specs.Prelude.{Contains}
use Rattle.std.proofs.lemmas.Option.{none-some, same_Some}
use Rattle.au_shipped.specs.declared.prims.ShippedCall.{ShippedCall}
use Rattle.au_shipped.specs.declared.prims.ShippedCall.TheVariants as prim
use Rattle.au_shipped.specs.Calls.{prim_of}
use Rattle.au_syntax.specs.declared.modules.Part.TheVariants.{Body}
use Rattle.au_syntax.specs.Plain.{Bytes}
use Rattle.au_types.specs.declared.spaces.Space.TheVariants.{Callables}
use Rattle.au_types.specs.Tables as tables
use Rattle.au_type_texts.specs.Types.{ClosedType}
use Rattle.au_modules.specs.Programs.{ModuleParts}
use Rattle.au_names.specs.declared.targets.Target.{Target}
use Rattle.au_names.specs.Standing.{Standing, standing_at}
use Rattle.au_typing.specs.Scopes.{Callable}
use Rattle.au_typing.specs.Trees.{NotedParts}
use Rattle.au_typing.specs.Written.{seen_at}
use Rattle.au_closing.specs.Bodies.{BodyOf, body_of}
use Rattle.au_closing.specs.Leading.{a_function, called_of, module_name}
use Rattle.au_closed_meanings.specs.Shipped.{born}
use Rattle.au_closing_laws.specs.Targets.{Call, calls_listed}
use Rattle.au_judged_programs.specs.CheckedChecked.{IsChecked}
use Rattle.au_judged_programs.proofs.ShippedFrontLemmas.{has_front}
use Rattle.au_judged_programs.proofs.ShippedSignatureLemmas.{signature, signed_so}
use Rattle.au_caps_laws.proofs.BoundLemmas.{IsNamed}
use Rattle.au_caps_laws.proofs.NamedLemmas.{good, is_called, result_named}

-- a shipped call that is a birth gives a declared type
signature_named : (its : ShippedCall) (of t : ClosedType) (c : Callable) → born its of ≡ Some t
    → signature its ≡ Some c → IsNamed c.result
signature_named prim.MakeBox of t c bears e =
    subst (λ (x : Callable). IsNamed x.result) (same_Some _ c e) (_, _, refl)
signature_named prim.MakeEmpty of t c bears e =
    subst (λ (x : Callable). IsNamed x.result) (same_Some _ c e) (_, _, refl)
signature_named prim.AcquireTerminal of t c bears e =
    subst (λ (x : Callable). IsNamed x.result) (same_Some _ c e) (_, _, refl)
signature_named other of t c bears e = absurd (none-some t bears)

module _ (program : List ModuleParts) (noted : List NotedParts) (checked : IsChecked program noted)
    (caller : Target) (body : BodyOf) (there : body_of program noted caller ≡ Some body) (call : Call)
    (listed : Contains (calls_listed body.block) call) (target : Target)
    (means : tables.find call.1 (seen_at Callables program body.place Body) ≡ Some target) (d : Standing)
    (found : standing_at program target.at ≡ Some d) where
  abbrev its_callable : Callable
  its_callable = (good program noted checked.derives caller body there call listed target means d found).good.called

  pub named_by_birth : (name : Bytes) (names : List Bytes) (its : ShippedCall) (of t : ClosedType)
      → called_of target.name d.says ≡ Some (a_function name names)
      → prim_of (module_name program target.at.«module») name None ≡ Some its → born its of ≡ Some t
      → IsNamed call.0.of
  named_by_birth name names its of t leads is bears =
      result_named program noted checked.derives caller body there call listed target means d found
      (signature_named its of t its_callable bears
      (signed_so program (has_front program noted checked) target d its_callable name names its found leads is
      (is_called program noted checked.derives caller body there call listed target means d found)))
