-- Guarded functions are a good program, and so the code of what suits does what it means.
use Rattle.std.proofs.Common.{◌≡◌, ℕ, suc, ◌+◌, Bool, true, false, not, cond, List, [], ◌∷◌, map}
use Rattle.std.proofs.Common.{Option, Some, None, refl, sym, ap, subst, ◌∙◌, arith}
use Rattle.std.specs.Prelude.{slice_get, if◌then◌else◌}
use Rattle.std.specs.Option.{option_map}
use Rattle.std.specs.Str.{bytes_eq}
use Rattle.std.proofs.lemmas.Option.{slice_get-map}
use Rattle.std.proofs.lemmas.Bool.{not-true}
use Rattle.au_base.proofs.BoolLemmas.{and_first, and_second}
use Rattle.au_type_texts.specs.Same.{same}
use Rattle.au_type_texts.specs.Types.{ClosedType}
use Rattle.au_type_texts.proofs.SameLemmas.{same_is}
use Rattle.au_effects.specs.Values as values
use Rattle.au_low.specs.declared.code.LowType.{LowType}
use Rattle.au_low.specs.Runs.{low_run}
use Rattle.au_lowered.specs.Agreeing.{InStep, event_numbered, ending_numbered}
use Rattle.au_lowered.specs.Programs.{types_in, type_number}
use Rattle.au_meaning.specs.Meanings.{mean}
use Rattle.au_meaning.specs.Views.{Function, View}
use Rattle.au_meaning.specs.Worlds.{Outcome, Value, stuck}
use Rattle.au_lowered.specs.FollowLaws.{Follows}
use Rattle.au_lowered.specs.Premises.{HasLiteral, Lacks, Once, GoodView}
use Rattle.au_lowered.specs.FollowPrograms.{coding, EntryTakes, GoodFunction, GoodProgram}
use Rattle.au_lowered.proofs.RunLemmas.{runs_follow}
use Rattle.au_syntax.specs.Plain.{Bytes}
use Rattle.au_running.specs.Followed.{AreFollowed, FollowedRunsFollow, GuardedAreGood}
use Rattle.au_running.specs.Suits.{has_literal, is_lacking, are_once, is_followed, passing}
use Rattle.au_running.specs.Suits.{guarded, guarded_function, guarded_functions}
use Rattle.au_running.proofs.CodeLemmas.{lowered_same, texts_same, types_same}
use Rattle.au_running.proofs.MeaningLemmas.{means_same}
use Rattle.au_lowered.proofs.HomeLemmas.{homes_are_found}
use Rattle.au_lowered.specs.HomeLists.{slot_in}

-- ---- literals

literal_there : (value : Value) → has_literal value ≡ true → HasLiteral value
literal_there values.unit e = tt
literal_there (values.truth b) e = tt
literal_there (values.number kind z) e = e
literal_there (values.text t) e = tt
literal_there other e = absurd cc

lacks_it : (name : Bytes) (all : List Bytes) → is_lacking name all ≡ true → Lacks name all
lacks_it name [] e = tt
lacks_it name (other ∷ rest) e = (
  not-true (bytes_eq name other) (and_first (not (bytes_eq name other)) (is_lacking name rest) e),
  lacks_it name rest (and_second (not (bytes_eq name other)) (is_lacking name rest) e),
)

once_each : (all : List Bytes) → are_once all ≡ true → Once all
once_each [] e = tt
once_each (name ∷ rest) e = (
  lacks_it name rest (and_first (is_lacking name rest) (are_once rest) e),
  once_each rest (and_second (is_lacking name rest) (are_once rest) e),
)

-- what has passed a test passes it
passed : {A : Type 0} (test : A → Bool) (o : Option A) (a : A) → passing test o ≡ Some a → test a ≡ true
passed test None a e = absurd cc
passed test (Some x) a e = by_test (test x) refl e
  where
    by_test : (b : Bool) → test x ≡ b → (if b then Some x else None) ≡ Some a → test a ≡ true
    by_test false is there = absurd cc
    by_test true is there = let same : x ≡ a = cc in subst (λ y. test y ≡ true) same is

-- ---- types

-- what stands at the number of a type is it
pub found_at : (types : List ClosedType) (of t : ClosedType) → slice_get types (type_number types of) ≡ Some t
    → same t of ≡ true
found_at [] of t e = absurd (grind arith)
found_at (first ∷ rest) of t e = by_test (same first of) refl e (found_at rest of t)
  where
    by_test : (b : Bool) → same first of ≡ b
        → slice_get (first ∷ rest) (cond (not (same first of)) (1 + type_number rest of) 0) ≡ Some t
        → (slice_get rest (type_number rest of) ≡ Some t → same t of ≡ true) → same t of ≡ true
    by_test true is there more =
        let here : first ≡ t =
        option_out (sym (ap (λ b. slice_get (first ∷ rest) (cond (not b)
        (1 + type_number rest of) 0)) is) ∙ there) in
        subst (λ x. same x of ≡ true) here is
      where
        option_out : {a b : ClosedType} → Some a ≡ Some b → a ≡ b
        option_out e = cc
    by_test false is there more =
        let n = type_number rest of in
        let next : 1 + n ≡ suc n = omega arith in
        more (sym (ap (λ k. slice_get (first ∷ rest) k) next)
        ∙ sym (ap (λ b. slice_get (first ∷ rest) (cond (not b) (1 + n) 0)) is) ∙ there)

told_linear : (told : ClosedType → LowType) (linear : ClosedType → Bool)
    → ((of : ClosedType) → (told of).linear ≡ linear of) → (of : ClosedType) (o : Option ClosedType)
    → ((t : ClosedType) → o ≡ Some t → same t of ≡ true) → (type : LowType) → option_map told o ≡ Some type
    → type.linear ≡ linear of
told_linear told linear says of None found type e = absurd cc
told_linear told linear says of (Some t) found type e =
    let is : told t ≡ type = cc in
    sym (ap (λ (x : LowType). x.linear) is)
    ∙ ap (λ x. (told x).linear) (same_is t of (found t refl))
    ∙ says of

-- ---- views and functions

module _ {T C : Type 0} (told : ClosedType → LowType) (functions : List (Function ℕ T C)) (slot : ℕ → ℕ) where
  view_good : (see : View ℕ T C) → ((of : ClosedType) → (told of).linear ≡ see.is_linear of)
      → GoodView (coding told functions slot) (guarded see)
  view_good see says = record {
    constants = λ note name value e. literal_there value (passed has_literal
        (see.constant note name) value e);
    parameters = λ note c name one e.
        once_each one.parameters (passed is_followed (see.callee note c name) one e);
    linear = λ of type e.
        told_linear told see.is_linear says of
        (slice_get (types_in functions) (type_number (types_in functions) of))
        (found_at (types_in functions) of) type
        (sym (slice_get-map told (types_in functions) (type_number (types_in functions) of)) ∙ e);
  }

module _ {T C : Type 0} (told : ClosedType → LowType) (functions : List (Function ℕ T C))
    (followed : AreFollowed told functions) where
  function_good : (i : ℕ) (o : Option (Function ℕ T C)) → slice_get functions i ≡ o → (g : Function ℕ T C)
      → option_map guarded_function o ≡ Some g
      → GoodFunction told (guarded_functions functions) (slot_in (guarded_functions functions)) g
  function_good i None there g e = absurd cc
  function_good i (Some f) there g e =
      let is : guarded_function f ≡ g = cc in
      let formed = followed.formed i f there in
      subst (λ x. GoodFunction told (guarded_functions functions) (slot_in (guarded_functions functions)) x) is
      (record {
        returns = formed.returns;
        tidy = formed.tidy;
        whole = formed.whole;
        homes = homes_are_found (guarded_functions functions) followed.homes i (guarded_function f)
            (slice_get-map guarded_function functions i ∙ ap (λ o. option_map guarded_function o) there);
        view = view_good told (guarded_functions functions) (slot_in (guarded_functions functions)) f.view
            (followed.linear i f there);
      })

  entry_good : (o : Option (Function ℕ T C)) → slice_get functions 0 ≡ o → (g : Function ℕ T C)
      → option_map guarded_function o ≡ Some g → EntryTakes g.parameters
  entry_good None there g e = absurd cc
  entry_good (Some f) there g e =
      let is : guarded_function f ≡ g = cc in
      subst (λ (x : Function ℕ T C). EntryTakes x.parameters) is (followed.entry f there)

  program_good : GoodProgram told (guarded_functions functions)
  program_good = record {
    slot = slot_in (guarded_functions functions);
    each = λ i g e.
        function_good i (slice_get functions i) refl g (sym (slice_get-map guarded_function functions i) ∙ e);
    entry = λ g e.
        entry_good (slice_get functions 0) refl g (sym (slice_get-map guarded_function functions 0) ∙ e);
  }

  -- what follows by guarded views follows
  unguarded : (input : List ℕ) (meant : Outcome) → Follows told (guarded_functions functions) input meant
      → Follows told functions input meant
  unguarded input meant f =
      let code = lowered_same told functions followed.suits in
      let ran = λ (k : ℕ). ap (λ c. low_run true c input k) code in record {
        steps = f.steps;
        made = sym (ap (λ o. o.made) (ran f.steps)) ∙ f.made;
        agrees = record {
          ending = sym (ap (λ o. o.ending) (ran f.steps)) ∙ f.agrees.ending
              ∙ ap (λ t. ending_numbered t meant.ending) (texts_same functions followed.suits);
          output = sym (ap (λ o. o.output) (ran f.steps)) ∙ f.agrees.output;
          left = sym (ap (λ o. o.left) (ran f.steps)) ∙ f.agrees.left;
          events = sym (ap (λ o. o.events) (ran f.steps)) ∙ f.agrees.events
              ∙ ap (λ t. map (event_numbered t) meant.world.store.deeds)
              (types_same functions followed.suits);
        };
        in_step = subst (λ o. InStep meant o) (ran f.steps) f.in_step;
        stays = λ over more. sym (ran (f.steps + more)) ∙ f.stays over more ∙ ran f.steps;
      }

  runs : (input : List ℕ) (ticks : ℕ) → ((mean (λ i. slice_get functions i) 0 input ticks).ending ≡ stuck → ⊥)
      → Follows told functions input (mean (λ i. slice_get functions i) 0 input ticks)
  runs input ticks claim =
      let same = means_same functions followed.suits input ticks in
      subst (λ m. Follows told functions input m) same
      (unguarded input (mean (λ i. slice_get (guarded_functions functions) i) 0 input ticks)
      (runs_follow told (guarded_functions functions) program_good input ticks
      (λ e. claim (sym (ap (λ m. m.ending) same) ∙ e))))

-- guarded functions are a good program
pub guarded_good : (T C : Type 0) → GuardedAreGood T C
guarded_good T C told functions followed = program_good told functions followed

-- the code of functions that suit does what they mean
pub followed_follow : (T C : Type 0) → FollowedRunsFollow T C
followed_follow T C told functions followed input ticks claim = runs told functions followed input ticks claim
