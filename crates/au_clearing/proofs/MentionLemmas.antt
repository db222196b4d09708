-- What an expression does to the names of a table, part by part.
use Rattle.std.proofs.Common.{◌≡◌, ℕ, suc, ◌+◌, ◌<◌, ◌≤◌, Bool, true, false, cond, ◌||◌, List, [], ◌∷◌}
use Rattle.std.proofs.Common.{length, drop, get_or, Option, None, Some, Result, OnOk, refl, sym, ap, subst}
use Rattle.std.proofs.Common.{◌∙◌, arith, drop-cons, if◌then◌else◌}
use Rattle.std.proofs.lemmas.List.{drop_all}
use Rattle.std.specs.Str.{bytes_eq}
use Rattle.au_base.proofs.ListLemmas.{next_item}
use Rattle.au_base.proofs.TextLemmas.{bytes_same}
use Rattle.au_syntax.specs.declared.phases.Phase.{Ghosts}
use Rattle.au_syntax.specs.declared.expressions.Expr.{Expr}
use Rattle.au_syntax.specs.declared.expressions.Argument.{Argument}
use Rattle.au_syntax.specs.Names.{Placed}
use Rattle.au_syntax.specs.Plain.{Bytes, PlainExpression}
use Rattle.au_clearing.specs.declared.touches.Touch.{Touch}
use Rattle.au_clearing.specs.declared.touches.Touch.TheVariants.{Untouched, Quiet, Written, Consumed, Broken}
use Rattle.au_clearing.specs.declared.touches.Touches.{Touches}
use Rattle.au_clearing.specs.Touches.{both, alone, where_named, touched}
use Rattle.au_clearing.specs.Deals.{by_touch, touch_or_none, touch_in, Meets}
use Rattle.au_clearing.specs.Tables.{find, Changes}
use Rattle.au_clearing.proofs.CombiningLemmas.{found_here, found_other}

pub both_assoc : (s t u : Touch) → both (both s t) u ≡ both s (both t u)
both_assoc Untouched t u = refl
both_assoc Quiet Untouched u = refl
both_assoc Quiet Quiet Untouched = refl
both_assoc Quiet Quiet Quiet = refl
both_assoc Quiet Quiet Written = refl
both_assoc Quiet Quiet Consumed = refl
both_assoc Quiet Quiet Broken = refl
both_assoc Quiet Written Untouched = refl
both_assoc Quiet Written Quiet = refl
both_assoc Quiet Written Written = refl
both_assoc Quiet Written Consumed = refl
both_assoc Quiet Written Broken = refl
both_assoc Quiet Consumed Untouched = refl
both_assoc Quiet Consumed Quiet = refl
both_assoc Quiet Consumed Written = refl
both_assoc Quiet Consumed Consumed = refl
both_assoc Quiet Consumed Broken = refl
both_assoc Quiet Broken Untouched = refl
both_assoc Quiet Broken Quiet = refl
both_assoc Quiet Broken Written = refl
both_assoc Quiet Broken Consumed = refl
both_assoc Quiet Broken Broken = refl
both_assoc Written Untouched u = refl
both_assoc Written Quiet Untouched = refl
both_assoc Written Quiet Quiet = refl
both_assoc Written Quiet Written = refl
both_assoc Written Quiet Consumed = refl
both_assoc Written Quiet Broken = refl
both_assoc Written Written Untouched = refl
both_assoc Written Written Quiet = refl
both_assoc Written Written Written = refl
both_assoc Written Written Consumed = refl
both_assoc Written Written Broken = refl
both_assoc Written Consumed Untouched = refl
both_assoc Written Consumed Quiet = refl
both_assoc Written Consumed Written = refl
both_assoc Written Consumed Consumed = refl
both_assoc Written Consumed Broken = refl
both_assoc Written Broken Untouched = refl
both_assoc Written Broken Quiet = refl
both_assoc Written Broken Written = refl
both_assoc Written Broken Consumed = refl
both_assoc Written Broken Broken = refl
both_assoc Consumed Untouched u = refl
both_assoc Consumed Quiet Untouched = refl
both_assoc Consumed Quiet Quiet = refl
both_assoc Consumed Quiet Written = refl
both_assoc Consumed Quiet Consumed = refl
both_assoc Consumed Quiet Broken = refl
both_assoc Consumed Written Untouched = refl
both_assoc Consumed Written Quiet = refl
both_assoc Consumed Written Written = refl
both_assoc Consumed Written Consumed = refl
both_assoc Consumed Written Broken = refl
both_assoc Consumed Consumed Untouched = refl
both_assoc Consumed Consumed Quiet = refl
both_assoc Consumed Consumed Written = refl
both_assoc Consumed Consumed Consumed = refl
both_assoc Consumed Consumed Broken = refl
both_assoc Consumed Broken Untouched = refl
both_assoc Consumed Broken Quiet = refl
both_assoc Consumed Broken Written = refl
both_assoc Consumed Broken Consumed = refl
both_assoc Consumed Broken Broken = refl
both_assoc Broken Untouched u = refl
both_assoc Broken Quiet Untouched = refl
both_assoc Broken Quiet Quiet = refl
both_assoc Broken Quiet Written = refl
both_assoc Broken Quiet Consumed = refl
both_assoc Broken Quiet Broken = refl
both_assoc Broken Written Untouched = refl
both_assoc Broken Written Quiet = refl
both_assoc Broken Written Written = refl
both_assoc Broken Written Consumed = refl
both_assoc Broken Written Broken = refl
both_assoc Broken Consumed Untouched = refl
both_assoc Broken Consumed Quiet = refl
both_assoc Broken Consumed Written = refl
both_assoc Broken Consumed Consumed = refl
both_assoc Broken Consumed Broken = refl
both_assoc Broken Broken Untouched = refl
both_assoc Broken Broken Quiet = refl
both_assoc Broken Broken Written = refl
both_assoc Broken Broken Consumed = refl
both_assoc Broken Broken Broken = refl

pub both_none : (t : Touch) → both t Untouched ≡ t
both_none Untouched = refl
both_none Quiet = refl
both_none Written = refl
both_none Consumed = refl
both_none Broken = refl

pub meets_none : (table : List (Bytes × Touches)) → Meets table table (λ x free. Untouched)
meets_none table x free = sym (both_none (touch_in table x free))

pub meets_then : (a b c : List (Bytes × Touches)) (f g : Bytes → Bool → Touch) → Meets a b f → Meets b c g →
    Meets a c (λ x free. both (f x free) (g x free))
meets_then a b c f g h k x free =
    k x free
    ∙ ap (λ t. both t (g x free)) (h x free)
    ∙ both_assoc (touch_in a x free) (f x free) (g x free)

pub meets_same : (a b : List (Bytes × Touches)) (f g : Bytes → Bool → Touch) → Meets a b f →
    ((x : Bytes) (free : Bool) → f x free ≡ g x free) → Meets a b g
meets_same a b f g h e x free = h x free ∙ ap (both (touch_in a x free)) (e x free)

-- one mention more
pub mentioned : (old new : List (Bytes × Touches)) (name : Bytes) (was more value : Touches) →
    ((free : Bool) → by_touch free was ≡ touch_or_none free (find name old)) →
    value.owned ≡ both was.owned more.owned → value.free ≡ both was.free more.free →
    Changes old new name (Some value) → Meets old new (λ x free. where_named x name (by_touch free more))
mentioned old new name was more value is owned frees put x free = by (bytes_eq name x) refl
  where
    value_is : (free : Bool) → by_touch free value ≡ both (by_touch free was) (by_touch free more)
    value_is true = frees
    value_is false = owned

    by : (b : Bool) → bytes_eq name x ≡ b →
        touch_in new x free ≡ both (touch_in old x free) (cond (bytes_eq name x) (by_touch free more) Untouched)
    by true e =
        ap (touch_or_none free) (found_here old new name x (Some value) put e)
        ∙ value_is free
        ∙ ap (λ t. both t (by_touch free more))
        (is free ∙ ap (λ n. touch_or_none free (find n old)) (bytes_same name x e))
        ∙ ap (λ b. both (touch_in old x free) (cond b (by_touch free more) Untouched)) (sym e)
    by false e =
        ap (touch_or_none free) (found_other old new name x (Some value) put e)
        ∙ sym (both_none (touch_in old x free))
        ∙ ap (λ b. both (touch_in old x free) (cond b (by_touch free more) Untouched)) (sym e)

-- a name alone or with fields
pub named_alone : (more : Touches) (looked part : Bool) (fields : List (Placed Bytes)) →
    more.owned ≡ alone looked part fields → more.free ≡ Quiet → (free : Bool) →
    by_touch free more ≡ alone (free || looked) part fields
named_alone more looked part fields owned frees true = frees ∙ sym (free_alone part fields)
  where
    free_alone : (part : Bool) (fields : List (Placed Bytes)) → alone true part fields ≡ Quiet
    free_alone true [] = refl
    free_alone false [] = refl
    free_alone true (f ∷ fs) = refl
    free_alone false (f ∷ fs) = refl
named_alone more looked part fields owned frees false = owned

pub same_for_both : (more : Touches) (t : Touch) → more.owned ≡ t → more.free ≡ t → (free : Bool) →
    by_touch free more ≡ t
same_for_both more t p q true = q
same_for_both more t p q false = p

pub or_both : (free looked more : Bool) → ((free || looked) || more) ≡ (free || (looked || more))
or_both true looked more = refl
or_both false looked more = refl

-- from the table without names
pub meets_all : (old new : List (Bytes × Touches)) (f : Bytes → Bool → Touch) → old ≡ [] → Meets old new f → (x : Bytes)
    (free : Bool) → touch_in new x free ≡ f x free
meets_all old new f e h x free = h x free ∙ ap (λ l. both (touch_in l x free) (f x free)) e

-- what is left of some parts of a step, behind those that are met
module _ {A : Type 0} (all : List A → Bytes → Bool → Touch) (one : A → Bytes → Bool → Touch) where
  pub item_met :
      ((a : A) (rest : List A) (x : Bytes) (free : Bool) → all (a ∷ rest) x free ≡ both (one a x free)
      (all rest x free)) →
      (xs : List A) (i : ℕ) (a : A) → a ≡ get_or xs i a → i < length xs → (old mid new : List (Bytes × Touches)) →
      ((x : Bytes) (free : Bool) →
      both (touch_in mid x free) (all (drop i xs) x free) ≡ both (touch_in old x free) (all xs x free)) →
      Meets mid new (one a) → (x : Bytes) (free : Bool) →
      both (touch_in new x free) (all (drop (i + 1) xs) x free) ≡ both (touch_in old x free) (all xs x free)
  item_met more xs i a is within old mid new before met x free =
      let rest = drop (i + 1) xs in
      ap (λ t. both t (all rest x free)) (met x free)
      ∙ both_assoc (touch_in mid x free) (one a x free) (all rest x free)
      ∙ ap (both (touch_in mid x free))
      (sym (more a rest x free)
      ∙ ap (λ l. all l x free) (sym (next_item xs i a is within)))
      ∙ before x free

  pub items_met : ((x : Bytes) (free : Bool) → all [] x free ≡ Untouched) → (xs : List A) (i : ℕ) →
      length xs ≤ i → (old mid : List (Bytes × Touches)) →
      ((x : Bytes) (free : Bool) →
      both (touch_in mid x free) (all (drop i xs) x free) ≡ both (touch_in old x free) (all xs x free)) →
      Meets old mid (all xs)
  items_met none xs i past old mid before x free =
      sym (ap (both (touch_in mid x free)) (ap (λ l. all l x free) (drop_all i xs past) ∙ none x free)
      ∙ both_none (touch_in mid x free))
      ∙ before x free

-- the same step of another tree that says the same
pub met_as : {T E : Type 0} (r : Result T E) (old new : List (Bytes × Touches)) (looked part : Bool)
    (e f : PlainExpression) → e ≡ f →
    OnOk r (Meets old new (λ x free. touched x (free || looked) part f)) →
    OnOk r (Meets old new (λ x free. touched x (free || looked) part e))
met_as r old new looked part e f is h =
    subst (λ e. OnOk r (Meets old new (λ x free. touched x (free || looked) part e))) (sym is) h

pub unmet_as : (table : List (Bytes × Touches)) (looked part : Bool) (e f : PlainExpression) → e ≡ f →
    ((x : Bytes) (free : Bool) → touched x (free || looked) part f ≡ Untouched) →
    Meets table table (λ x free. touched x (free || looked) part e)
unmet_as table looked part e f is none =
    subst (λ e. Meets table table (λ x free. touched x (free || looked) part e)) (sym is)
    (λ x free. sym (ap (both (touch_in table x free)) (none x free) ∙ both_none (touch_in table x free)))
