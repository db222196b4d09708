-- What is called by a good call is there: its name means a declaration that has something under the name.
use Rattle.std.proofs.Common.{◌≡◌, Bool, cond, List, find, length, map, Option, None, Some, refl, sym, ap, ◌∙◌, subst}
use Rattle.std.specs.Prelude.{Contains}
use Rattle.std.specs.List.{position, position_or_len}
use Rattle.std.specs.Option.{option_map}
use Rattle.std.proofs.lemmas.Bool.{lt-ltb}
use Rattle.std.proofs.lemmas.List.Folds.{find_at}
use Rattle.std.proofs.lemmas.Option.{none-some, slice_get_within}
use Rattle.au_syntax.specs.declared.modules.Part.TheVariants.{Body}
use Rattle.au_syntax.specs.Modules.{Header, Variant, constant, opaque_type, record_type, union_type, function}
use Rattle.au_syntax.specs.Modules.{class, instance, constant_body, function_body, instance_body}
use Rattle.au_syntax.specs.Plain.{Bytes, PlainDeclaration}
use Rattle.au_types.specs.declared.spaces.Space.TheVariants.{Callables}
use Rattle.au_types.specs.Tables as tables
use Rattle.au_modules.specs.Programs.{ModuleParts}
use Rattle.au_names.specs.declared.targets.Target.{Target}
use Rattle.au_names.specs.Standing.{Standing, standing_at}
use Rattle.au_judged_types.specs.Meanings.{parameter}
use Rattle.au_typing.specs.Scopes.{Callable, Outside}
use Rattle.au_typing.specs.Called.{callable_at, callable_standing, case_called, declared_callable, is_case}
use Rattle.au_typing.specs.Called.{is_method, method_called}
use Rattle.au_typing.specs.Written.{seen_at}
use Rattle.au_typing.specs.Bodies.{generics_in}
use Rattle.au_typing.specs.Trees.{NotedParts}
use Rattle.au_accepted.specs.Faults.{IsDerived}
use Rattle.au_closing.specs.Bodies.{BodyOf, body_of}
use Rattle.au_closing.specs.Leading as leading
use Rattle.au_closing.specs.Leading.{Called, a_maker, called_of}
use Rattle.au_closing_laws.specs.Targets.{Call, calls_listed}
use Rattle.au_closing_laws.specs.Calls.{IsGoodCall, IsMeant, outside_at}
use Rattle.au_closing_laws.proofs.BodyLemmas.{call_good}

-- what is found has a place
pub placed : {A : Type 0} (p : A → Bool) (xs : List A) (x : A) → find p xs ≡ Some x →
    position p xs ≡ Some (position_or_len p xs)
placed p xs x e =
    ap (λ b. cond b (Some (position_or_len p xs)) None)
    (lt-ltb (position_or_len p xs) (length xs) (slice_get_within xs (position_or_len p xs) x (sym (find_at p xs) ∙ e)))

module _ (program : List ModuleParts) (d : Standing) (target : Target) (c : Callable) where
  -- what a declaration has that is called it has also for those who close the program
  abbrev HasCalled : PlainDeclaration → Type 0
  HasCalled says = (called : Called) × (called_of target.name says ≡ Some called)

  has_called : (says : PlainDeclaration) → declared_callable program d target.at target.name says ≡ Some c →
      HasCalled says
  has_called (function at generics h) e = (leading.function_called generics h, refl)
  has_called (function_body at generics h body stop) e = (leading.function_called generics h, refl)
  has_called (class at n p methods) e = by (find (is_method target.name) methods) e
    where
      by : (o : Option (Header Bytes)) → method_called program d target.at (parameter p) o ≡ Some c →
          (called : Called) × (option_map (leading.method_called p.name.name) o ≡ Some called)
      by None e = absurd (none-some c e)
      by (Some h) e = (leading.method_called p.name.name h, refl)
  has_called (record_type at n ps u fields) e = (a_maker 0, refl)
  has_called (union_type at n ps u cases) e = by (find (is_case target.name) cases) refl e
    where
      by : (o : Option (Variant Bytes)) → find (is_case target.name) cases ≡ o →
          case_called program d n.name (map parameter ps) o ≡ Some c
          → (called : Called) × (option_map a_maker (position (is_case target.name) cases) ≡ Some called)
      by None is e = absurd (none-some c e)
      by (Some v) is e = (
        a_maker (position_or_len (is_case target.name) cases),
        ap (option_map a_maker) (placed (is_case target.name) cases v is),
      )
  has_called (constant at n t) e = absurd (none-some c e)
  has_called (opaque_type at n ps u) e = absurd (none-some c e)
  has_called (instance at gs n t) e = absurd (none-some c e)
  has_called (constant_body at n t v) e = absurd (none-some c e)
  has_called (instance_body at gs n t ms) e = absurd (none-some c e)

module _ (program : List ModuleParts) (body : BodyOf) (call : Call) where
  -- a good call is meant
  good_meant : IsGoodCall (outside_at program body) (generics_in (outside_at program body) body.generics)
      call → IsMeant program body call
  good_meant one =
      by_target (tables.find call.1 (seen_at Callables program body.place Body)) refl
      (subst (λ (o : Outside). o.callable call.1 ≡ Some one.good.called) one.of_outside one.good.is_called)
    where
      by_found : (target : Target) → tables.find call.1 (seen_at Callables program body.place Body) ≡ Some target
          → (o : Option Standing) → standing_at program target.at ≡ o → callable_standing program target o
          ≡ Some one.good.called → IsMeant program body call
      by_found target means None is e = absurd (none-some one.good.called e)
      by_found target means (Some d) is e =
          let has = has_called program d target one.good.called d.says e in
          record {
            is_good = one;
            target = target;
            means = means;
            declared = d;
            found = is;
            has = e;
            called =
                has.0;
            is_called = has.1;
          }

      by_target : (o : Option Target) → tables.find call.1 (seen_at Callables program body.place Body) ≡ o →
          callable_at program o ≡ Some one.good.called → IsMeant program body call
      by_target None is e = absurd (none-some one.good.called e)
      by_target (Some target) is e = by_found target is (standing_at program target.at) refl e

-- each call in a body of a derived program is meant
pub call_meant : (program : List ModuleParts) (noted : List NotedParts) → IsDerived program noted →
    (target : Target) (body : BodyOf) → body_of program noted target ≡ Some body
    → (call : Call) → Contains (calls_listed body.block) call → IsMeant program body call
call_meant program noted derived target body there call listed =
    good_meant program body call (call_good program noted derived target body there call listed)
