-- What defines a constant has a literal of the type that is written for it; and no shipped module has
-- constants.
use Rattle.std.proofs.Common.{◌≡◌, ◌⊎◌, inl, inr, ℕ, ◌+◌, Bool, true, false, true≢false, List}
use Rattle.std.proofs.Common.{[], ◌++◌, map}
use Rattle.std.proofs.Common.{Option, None, Some, refl, sym, ap, ◌∙◌, subst}
use Rattle.std.specs.Prelude.{Ok, Err, slice_get}
use Rattle.std.specs.List.{list_all}
use Rattle.std.proofs.lemmas.Option.{none-some, same_Some}
use Rattle.au_base.specs.declared.places.Pos.{Pos}
use Rattle.au_shipped.specs.Shipped.{shipped_files}
use Rattle.au_syntax.specs.Modules.{constant, opaque_type, record_type, union_type, function, class, instance}
use Rattle.au_syntax.specs.Modules.{constant_body, function_body, instance_body}
use Rattle.au_syntax.specs.Names.{Placed}
use Rattle.au_syntax.specs.Plain.{Bytes, PlainDeclaration}
use Rattle.au_syntax.specs.Types.{WrittenType}
use Rattle.au_types.specs.Meant.{meant}
use Rattle.au_types.specs.Types.{Meaning}
use Rattle.au_judged_types.proofs.AgreementLemmas.{judged_is_meant}
use Rattle.au_judged_types.specs.Reasons.{Outcome, means, fails}
use Rattle.au_modules.specs.Programs.{Entry, ModuleParts, is_interface, module_of, shipped_module}
use Rattle.au_names.proofs.AmongLemmas.{Among}
use Rattle.au_names.specs.Owned.{declarations_in}
use Rattle.au_judged_bodies.specs.Typing.Bodies.{outer_scope}
use Rattle.au_judged_bodies.specs.Derivations.{GoodDeclaration}
use Rattle.au_judged_bodies.specs.Faults.{Noting}
use Rattle.au_judged_bodies.specs.Lookups.{outcome_noted, written_means, written_type}
use Rattle.au_judged_bodies.specs.Scopes.{Outside}
use Rattle.au_judged_bodies.specs.Trees.{NotedDeclaration, erase_declaration}
use Rattle.au_judged_bodies.specs.Bodies.{value_in}
use Rattle.au_closing_laws.specs.Gathered.{IsGathered, entry_of}
use Rattle.au_closing_laws.proofs.GatheredLemmas.{all_among, among_get, module_is}
use Rattle.au_judged_programs.proofs.LiteralLemmas.{Fits, literal_fits}

-- ---- definitions

-- the type that is written for a constant that has a value
abbrev pub type_written : PlainDeclaration → Option WrittenType
type_written (constant_body at name t e) = Some t
type_written other = None

abbrev kept_ok : Noting Meaning → Option Meaning
kept_ok (Ok t) = Some t
kept_ok (Err fault) = None

-- a written type that is judged to mean one means it, where nothing is in scope
written_meant : (outside : Outside) (w : WrittenType) (of : Meaning)
    → written_type (outer_scope outside []) w ≡ Ok of
    → meant [] [] outside.visible outside.heads w ≡ Some of
written_meant outside w of e = by (written_means (outer_scope outside []) w) refl e
  where
    by : (o : Outcome Meaning) → written_means (outer_scope outside []) w ≡ o → outcome_noted o ≡ Ok of
        → meant [] [] outside.visible outside.heads w ≡ Some of
    by (fails reason) is e = absurd (none-some of (ap kept_ok e))
    by (means u) is e =
        (judged_is_meant outside.heads [] [] outside.visible w u is).0
        ∙ ap Some (same_Some u of (ap kept_ok e))

-- a definition that is good has a literal of its type
pub defined_fits : (outside : Outside) (d : NotedDeclaration) (w : WrittenType) (t : Meaning)
    → GoodDeclaration outside d → type_written (erase_declaration d) ≡ Some w
    → meant [] [] outside.visible outside.heads w ≡ Some t → Fits (value_in d) t
defined_fits outside (constant_body at n its e) w t good written is =
    let same : good.of ≡ t =
    same_Some good.of t (sym (written_meant outside its good.of good.formed)
    ∙ ap (meant [] [] outside.visible outside.heads) (same_Some its w written) ∙ is) in
    subst (Fits (value_in (constant_body at n its e))) same
    (literal_fits (outer_scope outside []) good.of e good.wants good.literal)
defined_fits outside (constant at n t) w of good written is = absurd (none-some w written)
defined_fits outside (opaque_type at n ps u) w t good written is = absurd (none-some w written)
defined_fits outside (record_type at n ps u fields) w t good written is = absurd (none-some w written)
defined_fits outside (union_type at n ps u cases) w t good written is = absurd (none-some w written)
defined_fits outside (function at gs h) w t good written is = absurd (none-some w written)
defined_fits outside (class at n p hs) w t good written is = absurd (none-some w written)
defined_fits outside (instance at gs n t) w of good written is = absurd (none-some w written)
defined_fits outside (function_body at gs h b stop) w t good written is = absurd (none-some w written)
defined_fits outside (instance_body at gs n t ms) w of good written is = absurd (none-some w written)

-- ---- shipped modules

abbrev is_no_constant : PlainDeclaration → Bool
is_no_constant (constant at name t) = false
is_no_constant other = true

abbrev has_no_constant : Entry → Bool
has_no_constant e = list_all is_no_constant e.tree.declarations

none_shipped : list_all has_no_constant (map entry_of shipped_files) ≡ true
none_shipped = refl

-- a module without a body promises no constant
pub none_promised : (program : List ModuleParts) → IsGathered program → (m : ModuleParts) (place : ℕ)
    → slice_get program place ≡ Some m → m.body ≡ None
    → (index : ℕ) (at : Pos) (name : Placed Bytes) (t : WrittenType)
    → slice_get (declarations_in m.interface) index ≡ Some (constant at name t) → ⊥
none_promised program gathered m place is none index at name t there =
    by (module_is program gathered m place is)
  where
    files : List Entry
    files = map entry_of shipped_files

    by : ((x : Entry) × Among x files × (m ≡ shipped_module x))
        ⊎ ((x : Entry) × Among x gathered.own × (is_interface x.tree.part ≡ false)
        × (m ≡ module_of (map entry_of shipped_files ++ gathered.own) x)) → ⊥
    by (inl (x, a, same)) =
        true≢false (sym (all_among is_no_constant (constant at name t) x.tree.declarations
        (all_among has_no_constant x files none_shipped a)
        (among_get x.tree.declarations index (constant at name t)
        (sym (ap (λ (n : ModuleParts). slice_get (declarations_in n.interface) index) same) ∙ there))))
    by (inr (x, b, isnt, same)) = none-some x (sym none ∙ ap (λ (n : ModuleParts). n.body) same)
