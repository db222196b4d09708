-- Of a program that is gathered of shipped and parsed files declarations are those of their parts, and
-- functions of modules that have no body are shipped.
use Rattle.std.proofs.Common.{◌≡◌, ◌⊎◌, inl, inr, ℕ, List, [], None, Some, sym, ap, ◌∙◌, subst}
use Rattle.std.specs.Prelude.{IsTrue, slice_get, unwrap_or}
use Rattle.std.specs.Option.{option_map}
use Rattle.std.proofs.lemmas.Option.{none-some, same_Some}
use Rattle.au_shipped.specs.declared.prims.ShippedCall.{ShippedCall}
use Rattle.au_shipped.specs.Calls.{prim_of}
use Rattle.au_syntax.specs.declared.modules.Part.TheVariants.{Interface, Body}
use Rattle.au_syntax.specs.Forms.{formed_declaration}
use Rattle.au_modules.specs.Programs.{ModuleParts}
use Rattle.au_names.specs.Owned.{declarations_in}
use Rattle.au_closing.specs.Leading.{module_name}
use Rattle.au_closing_laws.specs.Gathered.{IsGathered}
use Rattle.au_closing_laws.specs.Premises.{AreOfParts, FunctionsAreShipped}
use Rattle.au_closing_laws.proofs.DefinitionLemmas.{IsThere, stands_in}
use Rattle.au_closing_laws.proofs.GatheredLemmas.{body_formed, functions_are_shipped, interface_formed}

pub parts_hold : (program : List ModuleParts) → IsGathered program → AreOfParts program
parts_hold program gathered at d found = by (stands_in program at d found)
  where
    by : (m : ModuleParts) × (slice_get program at.«module» ≡ Some m)
        × (IsThere at.«module» Interface (declarations_in m.interface) d
        ⊎ IsThere at.«module» Body (declarations_in m.body) d)
        → IsTrue (formed_declaration d.part d.says)
    by (m, is, inl its) =
        subst (λ p. IsTrue (formed_declaration p d.says)) (sym its.1)
        (interface_formed program gathered m at.«module» is d.index d.says its.2)
    by (m, is, inr its) =
        subst (λ p. IsTrue (formed_declaration p d.says)) (sym its.1)
        (body_formed program gathered m at.«module» is d.index d.says its.2)

-- the name of a module that is there
pub name_there : (program : List ModuleParts) (place : ℕ) (m : ModuleParts) → slice_get program place
    ≡ Some m → module_name program place ≡ m.name
name_there program place m is = ap (λ o. unwrap_or (option_map (λ (n : ModuleParts). n.name) o) []) is

pub functions_hold : (program : List ModuleParts) → IsGathered program → FunctionsAreShipped program
functions_hold program gathered at d m found here none place generics h says = by (stands_in program at d found)
  where
    by : (n : ModuleParts) × (slice_get program at.«module» ≡ Some n)
        × (IsThere at.«module» Interface (declarations_in n.interface) d
        ⊎ IsThere at.«module» Body (declarations_in n.body) d)
        → (call : ShippedCall) × (prim_of (module_name program at.«module») h.name.name None ≡ Some call)
    by (n, is, inl its) =
        let same : n ≡ m = same_Some n m (sym is ∙ here) in
        let shipped = functions_are_shipped program gathered m at.«module» here none d.index place generics h
        (sym (ap (λ (x : ModuleParts). slice_get (declarations_in x.interface) d.index) same) ∙ its.2 ∙ ap Some says) in
        (shipped.0, ap (λ name. prim_of name h.name.name None) (name_there program at.«module» m here) ∙ shipped.1)
    by (n, is, inr its) =
        let same : n ≡ m = same_Some n m (sym is ∙ here) in
        absurd (none-some d.says (sym (ap (λ (x : ModuleParts). slice_get (declarations_in x.body) d.index)
        same ∙ ap (λ o. slice_get (declarations_in o) d.index) none) ∙ its.2))
