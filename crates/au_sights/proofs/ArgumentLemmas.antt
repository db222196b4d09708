-- Arguments that are put for type parameters one by one.
use Rattle.std.proofs.Common.{◌≡◌, ℕ, zero, suc, ◌+◌, ◌<◌, ◌≤◌, ◌⊎◌, inl, inr, Bool, true, false, cond, List}
use Rattle.std.proofs.Common.{[], ◌∷◌, length, drop, get_or, Option, None, Some, is_some, refl, sym, ap, ◌∙◌}
use Rattle.std.proofs.Common.{subst, add-one, drop-cons}
use Rattle.std.specs.Prelude.{slice_get}
use Rattle.std.specs.Option.{option_or}
use Rattle.std.specs.Str.{bytes_eq}
use Rattle.std.proofs.lemmas.List.{drop_all}
use Rattle.std.proofs.lemmas.Slice.Eq.{bytes_eq-Decides}
use Rattle.au_base.proofs.OptionLemmas.{or_none}
use Rattle.au_types.specs.declared.parameters.Parameter.{Parameter}
use Rattle.au_types.specs.declared.types.Arg.{Arg}
use Rattle.au_types.specs.Types.{Argument, Arguments, no_arguments, arguments}
use Rattle.au_types.specs.Views.{argument, argument_all}
use Rattle.au_matching.specs.Bindings.{Bindings, IsInOrder, value_of, with_pair}
use Rattle.au_matching.proofs.BindingLemmas.{in_order-with, same_lists, value_of-with}
use Rattle.au_typing.specs.Insides.{with_arguments}
use Rattle.au_sights.specs.Steps.{put_at, put_first}

-- what is put so far, before what the type parameters that are left give
pub record PutSoFar (params : List Parameter) (items : List Arg) (i : ℕ) (s : Bindings) : Type 0 where
  pub order : IsInOrder s
  pub gives : (name : List ℕ) → value_of name (with_arguments params (argument_all items))
      ≡ option_or (value_of name s) (value_of name
      (with_arguments (drop i params) (argument_all (drop i items))))

pub put_none : (params : List Parameter) (items : List Arg) (s : Bindings) → s ≡ [] → PutSoFar params items 0 s
put_none params items s none = record {
  order = subst IsInOrder (sym none) refl;
  gives = λ name. ap (λ r. option_or (value_of name r)
      (value_of name (with_arguments params (argument_all items)))) (sym none);
}

-- the type parameter of an index before those behind it, or none
from_index : (params : List Parameter) (i : ℕ)
    → ((drop i params ≡ []) × (drop (suc i) params ≡ []) × (slice_get params i ≡ None))
    ⊎ ((p : Parameter) × (drop i params ≡ p ∷ drop (suc i) params) × (slice_get params i ≡ Some p))
from_index [] zero = inl (refl, refl, refl)
from_index [] (suc i) = inl (refl, refl, refl)
from_index (p ∷ params) zero = inr (p, refl, refl)
from_index (p ∷ params) (suc i) = from_index params i

none_behind : (args : Arguments) → with_arguments [] args ≡ []
none_behind args = refl

-- one argument more, where the name is free, and where it isn't
module _ (name own : List ℕ) (one : Argument) (s : Bindings) (rest : Option Argument) where
  put_gives : option_or (value_of name s) (cond (bytes_eq name own) (Some one) rest)
      ≡ option_or (value_of name (put_first own one s)) rest
  put_gives = by (value_of own s) refl
    where
      same : (w : Option Argument) (b : Bool) → value_of own s ≡ w → bytes_eq name own ≡ b → b ≡ true →
          value_of name s ≡ w
      same w b is eq holds = ap (λ n. value_of n s) ((bytes_eq-Decides name own).0 (eq ∙ holds)) ∙ is

      kept : (w : Argument) (b : Bool) → value_of own s ≡ Some w → bytes_eq name own ≡ b →
          option_or (value_of name s) (cond b (Some one) rest) ≡ option_or (value_of name s) rest
      kept w true is eq = ap (λ o. option_or o (Some one)) (same (Some w) true is eq refl)
          ∙ sym (ap (λ o. option_or o rest) (same (Some w) true is eq refl))
      kept w false is eq = refl

      free : (b : Bool) → value_of own s ≡ None → bytes_eq name own ≡ b →
          option_or (value_of name s) (cond b (Some one) rest) ≡ option_or (cond b (Some one) (value_of name s))
          rest
      free true is eq = ap (λ o. option_or o (Some one)) (same None true is eq refl)
      free false is eq = refl

      by : (o : Option Argument) → value_of own s ≡ o →
          option_or (value_of name s) (cond (bytes_eq name own) (Some one) rest)
          ≡ option_or (value_of name (put_first own one s)) rest
      by (Some w) is =
          kept w (bytes_eq name own) is refl
          ∙ sym (ap (λ o. option_or (value_of name (cond (is_some o) s (with_pair own one s))) rest) is)
      by None is =
          free (bytes_eq name own) is refl
          ∙ ap (λ o. option_or o rest) (sym (value_of-with name own one s))
          ∙ sym (ap (λ o. option_or (value_of name (cond (is_some o) s (with_pair own one s))) rest) is)

first_order : (own : List ℕ) (one : Argument) (s : Bindings) → IsInOrder s → IsInOrder (put_first own one s)
first_order own one s h = by (is_some (value_of own s))
  where
    by : (b : Bool) → IsInOrder (cond b s (with_pair own one s))
    by true = h
    by false = in_order-with own one s h

at_order : (p : Option Parameter) (one : Argument) (s : Bindings) → IsInOrder s → IsInOrder (put_at p one s)
at_order None one s h = h
at_order (Some p) one s h = first_order p.name one s h

pub put_next : (params : List Parameter) (items : List Arg) (i : ℕ) (x : Arg) (s after : Bindings) →
    i < length items → x ≡ get_or items i x → after ≡ put_at (slice_get params i) (argument x) s
    → PutSoFar params items i s → PutSoFar params items (i + 1) after
put_next params items i x s after less here put so_far = record {
  order = subst IsInOrder (sym put) (at_order (slice_get params i) (argument x) s so_far.order);
  gives = λ name. so_far.gives name ∙ by name (from_index params i)
      ∙ ap (λ n. option_or (value_of name after)
      (value_of name (with_arguments (drop n params) (argument_all (drop n items))))) (sym (add-one i));
}
  where
    items_left : drop i items ≡ x ∷ drop (suc i) items
    items_left = drop-cons items i x less ∙ ap (λ y. y ∷ drop (suc i) items) (sym here)

    behind : Arguments
    behind = argument_all (drop (suc i) items)

    by : (name : List ℕ) → ((drop i params ≡ []) × (drop (suc i) params ≡ []) × (slice_get params i ≡ None))
        ⊎ ((p : Parameter) × (drop i params ≡ p ∷ drop (suc i) params) × (slice_get params i ≡ Some p))
        → option_or (value_of name s) (value_of name
        (with_arguments (drop i params) (argument_all (drop i items)))) ≡ option_or (value_of name after)
        (value_of name (with_arguments (drop (suc i) params) behind))
    by name (inl e) =
        ap (λ ps. option_or (value_of name s) (value_of name (with_arguments ps (argument_all (drop i items))))) e.0
        ∙ ap (λ r. option_or (value_of name r) None) (sym (put ∙ ap (λ o. put_at o (argument x) s) e.2))
        ∙ ap (λ ps. option_or (value_of name after) (value_of name (with_arguments ps behind))) (sym e.1)
    by name (inr e) =
        ap (λ ps. option_or (value_of name s) (value_of name (with_arguments ps (argument_all (drop i items))))) e.1
        ∙ ap (λ xs. option_or (value_of name s)
        (value_of name (with_arguments (e.0 ∷ drop (suc i) params) (argument_all xs)))) items_left
        ∙ ap (option_or (value_of name s))
        (value_of-with name e.0.name (argument x) (with_arguments (drop (suc i) params) behind))
        ∙ put_gives name e.0.name (argument x) s (value_of name (with_arguments (drop (suc i) params) behind))
        ∙ ap (λ r. option_or (value_of name r) (value_of name (with_arguments (drop (suc i) params) behind)))
        (sym (put ∙ ap (λ o. put_at o (argument x) s) e.2))

given_order : (params : List Parameter) (args : Arguments) → IsInOrder (with_arguments params args)
given_order [] args = refl
given_order (p ∷ params) no_arguments = refl
given_order (p ∷ params) (arguments one rest) = in_order-with p.name one (with_arguments params rest)
    (given_order params rest)

no_more : (params : List Parameter) → with_arguments params no_arguments ≡ []
no_more [] = refl
no_more (p ∷ params) = refl

pub put_all : (params : List Parameter) (whole items : List Arg) (i : ℕ) (s : Bindings) → items ≡ whole →
    length items ≤ i → PutSoFar params items i s → s ≡ with_arguments params (argument_all whole)
put_all params whole items i s same past so_far =
    sym
    (same_lists (with_arguments params (argument_all items)) s (given_order params (argument_all items)) so_far.order
    (λ name.
    so_far.gives name
    ∙ ap (λ xs. option_or (value_of name s)
    (value_of name (with_arguments (drop i params) (argument_all xs)))) (drop_all i items past)
    ∙ ap (λ r. option_or (value_of name s) (value_of name r)) (no_more (drop i params))
    ∙ or_none (value_of name s)))
    ∙ ap (λ xs. with_arguments params (argument_all xs)) same
