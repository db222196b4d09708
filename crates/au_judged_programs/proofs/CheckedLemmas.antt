-- Checked programs are as calls ask them.
use Rattle.std.proofs.Common.{◌≡◌, ◌⊎◌, inl, inr, Bool, true, false, cond, true≢false, List, [], ◌∷◌, find, Option, None, Some}
use Rattle.std.proofs.Common.{refl, sym, ap, ◌∙◌, subst}
use Rattle.std.specs.Prelude.{slice_get}
use Rattle.std.proofs.lemmas.Option.{none-some, same_Some}
use Rattle.au_base.proofs.OptionLemmas.{map_some}
use Rattle.au_syntax.specs.declared.modules.Part.TheVariants.{Interface, Body}
use Rattle.au_syntax.specs.Modules.{Header, constant, opaque_type, record_type, union_type, function, class}
use Rattle.au_syntax.specs.Modules.{instance, constant_body, function_body, instance_body}
use Rattle.au_syntax.specs.Plain.{Bytes, PlainDeclaration}
use Rattle.au_syntax.specs.Types.{Labelled}
use Rattle.au_types.specs.declared.parameters.Parameter.{Parameter}
use Rattle.au_types.specs.declared.types.DeclAt.{DeclAt}
use Rattle.au_types.specs.Types.{Meaning}
use Rattle.au_judged_types.specs.Bounds.{Bounded, parameters}
use Rattle.au_judged_types.specs.declared.reading.Meant.{Meant}
use Rattle.au_judged_types.specs.declared.reading.Meant.TheVariants.{Are, Fails}
use Rattle.au_judged_types.specs.Meanings.{generics_meant, parameter}
use Rattle.au_modules.specs.Programs.{ModuleParts}
use Rattle.au_names.specs.HeadsOf.{heads_of}
use Rattle.au_names.specs.Owned.{declarations_in}
use Rattle.au_names.specs.Standing.{Standing}
use Rattle.au_closing_laws.proofs.DefinitionLemmas.{IsThere, stands_in}
use Rattle.au_closing_laws.proofs.FactLemmas.{functions_hold, parts_hold}
use Rattle.au_closing_laws.proofs.GenericsLemmas.{misfit_none}
use Rattle.au_closing_laws.proofs.TableLemmas.{good_table}
use Rattle.au_judged_bodies.specs.Called.{callable, declared_callable, function_called, is_method, method_called, unconstrained}
use Rattle.au_judged_bodies.specs.Scopes.{Callable, Typed}
use Rattle.au_judged_bodies.specs.Trees.{NotedParts}
use Rattle.au_judged_bodies.specs.Written.{all_typed, meant_in, typed, types_at}
use Rattle.au_judged_bodies.proofs.LawfulLemmas.{followed_is}
use Rattle.au_safe_steps.specs.Orders.{AreApart}
use Rattle.au_judged_bodies.specs.Rounds.{names_of}
use Rattle.au_judged_programs.specs.CheckedChecked.{IsChecked}
use Rattle.au_judged_programs.proofs.DefinitionLemmas.{definitions_fit}
use Rattle.au_judged_programs.proofs.FitLemmas.{definitions_apart}
use Rattle.au_judged_programs.proofs.OwnLemmas.{own_defined}
use Rattle.au_judged_bodies.specs.OnceFieldsApart.{labels}
use Rattle.au_judged_bodies.specs.OnceParametersApart.{EachMethodIsApart, ParametersAreApart}
use Rattle.au_judged_bodies.proofs.OnceParametersApartLemmas.{parameters_once}
use Rattle.au_judged_programs.specs.Programs.{ProgramFits, has_headers}

-- ---- the names of parameters

typed_names : (program : List ModuleParts) (d : Standing) (ps : List Parameter) (ws : List (Labelled Bytes))
    (kinds : List Typed) → all_typed program d ps ws ≡ Some kinds → names_of kinds ≡ labels ws
typed_names program d ps [] kinds e = ap names_of (sym (same_Some [] kinds e))
typed_names program d ps (w ∷ ws) kinds e =
    on (followed_is (typed program d ps w) (all_typed program d ps ws) kinds e)
    (λ others its. typed_names program d ps ws others its)
  where
    on : (x : Typed) × (others : List Typed) × (typed program d ps w ≡ Some x)
        × (all_typed program d ps ws ≡ Some others) × (x ∷ others ≡ kinds)
        → ((others : List Typed) → all_typed program d ps ws ≡ Some others → names_of others ≡ labels ws)
        → names_of kinds ≡ w.name.name ∷ labels ws
    on (x, others, first, its, whole) later =
        let from = map_some (λ t. record { name = w.name.name; of = t }) (meant_in program d ps w.of) x first in
        ap names_of (sym whole)
        ∙ ap (λ (y : Typed). y.name ∷ names_of others) (sym from.2)
        ∙ ap (λ l. w.name.name ∷ l) (later others its)

callable_takes : (generics : List Bounded) (of : Option (Bytes × DeclAt)) (given : Option (List Typed))
    (result : Option Meaning) (c : Callable) → callable generics of given result ≡ Some c → given ≡ Some c.parameters
callable_takes generics of (Some given) (Some result) c e =
    ap (λ (x : Callable). Some x.parameters)
    (same_Some (record { generics = generics; parameters = given; result = result; class = of }) c e)
callable_takes generics of None result c e = absurd (none-some c e)
callable_takes generics of (Some given) None c e = absurd (none-some c e)

method_apart : (name : Bytes) (methods : List (Header Bytes)) (h : Header Bytes) → EachMethodIsApart methods
    → find (is_method name) methods ≡ Some h → AreApart (labels h.parameters)
method_apart name [] h each e = absurd (none-some h e)
method_apart name (x ∷ rest) h each e = by (is_method name x) e (method_apart name rest h each.1)
  where
    by : (b : Bool) → cond b (Some x) (find (is_method name) rest) ≡ Some h
        → (find (is_method name) rest ≡ Some h → AreApart (labels h.parameters)) → AreApart (labels h.parameters)
    by true e later = subst (λ (y : Header Bytes). AreApart (labels y.parameters)) (same_Some x h e) each.0
    by false e later = later e

module _ (program : List ModuleParts) (d : Standing) (at : DeclAt) (name : Bytes) (called : Callable) where
  function_apart : (h : Header Bytes) (o : Meant) → function_called program d h o ≡ Some called
      → AreApart (labels h.parameters) → AreApart (names_of called.parameters)
  function_apart h (Fails why) e apart = absurd (none-some called e)
  function_apart h (Are generics) e apart =
      subst AreApart
      (sym (typed_names program d (parameters generics) h.parameters called.parameters
      (callable_takes generics None (all_typed program d (parameters generics) h.parameters)
      (meant_in program d (parameters generics) h.result) called e))) apart

  headers_apart : (says : PlainDeclaration) → has_headers says ≡ true
      → declared_callable program d at name says ≡ Some called → ParametersAreApart says
      → AreApart (names_of called.parameters)
  headers_apart (function pos gs h) is e apart =
      function_apart h (generics_meant (types_at program d.place d.part) (heads_of program) gs) e apart
  headers_apart (function_body pos gs h block stop) is e apart =
      function_apart h (generics_meant (types_at program d.place d.part) (heads_of program) gs) e apart
  headers_apart (class pos n p methods) is e apart = by (find (is_method name) methods) refl e
    where
      by : (o : Option (Header Bytes)) → find (is_method name) methods ≡ o
          → method_called program d at (parameter p) o ≡ Some called → AreApart (names_of called.parameters)
      by None found e = absurd (none-some called e)
      by (Some h) found e =
          subst AreApart
          (sym (typed_names program d (parameters (unconstrained (parameter p) ∷ [])) h.parameters called.parameters
          (callable_takes (unconstrained (parameter p) ∷ []) (Some ((parameter p).name, at))
          (all_typed program d (parameters (unconstrained (parameter p) ∷ [])) h.parameters)
          (meant_in program d (parameters (unconstrained (parameter p) ∷ [])) h.result) called e)))
          (method_apart name methods h apart found)
  headers_apart (record_type pos n ps u fields) is e apart = absurd (true≢false (sym is))
  headers_apart (union_type pos n ps u cases) is e apart = absurd (true≢false (sym is))
  headers_apart (constant pos n t) is e apart = absurd (true≢false (sym is))
  headers_apart (opaque_type pos n ps u) is e apart = absurd (true≢false (sym is))
  headers_apart (instance pos gs n t) is e apart = absurd (true≢false (sym is))
  headers_apart (constant_body pos n t v) is e apart = absurd (true≢false (sym is))
  headers_apart (instance_body pos gs n t ms) is e apart = absurd (true≢false (sym is))

-- ---- checked programs

module _ (program : List ModuleParts) (trees : List NotedParts) (checked : IsChecked program trees) where
  parameters_apart : (at : DeclAt) (d : Standing)
      → (m : ModuleParts) × (slice_get program at.«module» ≡ Some m)
      × (IsThere at.«module» Interface (declarations_in m.interface) d
      ⊎ IsThere at.«module» Body (declarations_in m.body) d) → ParametersAreApart d.says
  parameters_apart at d (m, here, inl its) =
      parameters_once program checked.declared.once at.«module» m Interface d.index d.says here its.2
  parameters_apart at d (m, here, inr its) =
      parameters_once program checked.declared.once at.«module» m Body d.index d.says here its.2

  pub program_fits : ProgramFits program trees
  program_fits = record {
    fit = definitions_fit program checked.gathered checked.named checked.kept checked.declared;
    apart = λ at d defined. definitions_apart program trees checked at d defined;
    own = λ at d name own found whole number.
        own_defined program checked.declared.once at d name own found whole number;
    erased = checked.derives.erased;
    kept = checked.kept;
    parts = parts_hold program checked.gathered;
    shipped = functions_hold program checked.gathered;
    headers = λ target d called found is declared.
        headers_apart program d target.at target.name called d.says is declared
        (parameters_apart target.at d (stands_in program target.at d found));
    meant = λ target body there. misfit_none program trees checked.declared checked.derives target body there;
    table = good_table program checked.instances;
  }
