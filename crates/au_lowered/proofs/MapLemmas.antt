-- What is done with values commutes with a change of their texts.
use Rattle.std.proofs.Common.{◌≡◌, ℕ, zero, suc, Bool, List, [], ◌∷◌, Option, Some, None, refl, ap, ap₂, ◌∙◌, map, ℤ}
use Rattle.std.specs.Prelude.{option_map}
use Rattle.au_base.specs.declared.kinds.IntKind.{IntKind}
use Rattle.au_ints.specs.declared.operations.IntOp.{IntOp}
use Rattle.au_ints.specs.declared.operations.WrapOp.{WrapOp}
use Rattle.au_ints.specs.declared.operations.Order.{Order}
use Rattle.au_ints.specs.declared.operations.Order.TheVariants as order
use Rattle.au_ints.specs.Operations.{trapped, converted}
use Rattle.au_effects.specs.Answers as answer
use Rattle.au_effects.specs.Answers.{Result}
use Rattle.au_effects.specs.Calls.{root_in, box_in, buffer_in, terminal_in}
use Rattle.au_effects.specs.Numbers.{number_in, if_of, number_of, truth_in, text_in, on_both, number_or_fault}
use Rattle.au_effects.specs.Numbers.{computed, wrapped_around, compared_truths, compared, turned, negated}
use Rattle.au_effects.specs.Numbers.{at_kind, converted_from, converted_value}
use Rattle.au_effects.specs.Parts.{along, nth_field, field, part, with_nth, with_field, with_part}
use Rattle.au_effects.specs.Values.{Value, Fields, unit, truth, number, text, made, reference, box, buffer}
use Rattle.au_effects.specs.Values.{terminal, root, no_fields, field_then, listed, fields_of, optional}
use Rattle.au_lowered.specs.Maps.{Change, value_to, fields_to, result_to}

module _ {T S : Type 0} (f : Change T S) where
  -- ---- fields

  pub nth_to : (index : ℕ) (fields : Fields T)
      → nth_field index (fields_to f fields) ≡ option_map (value_to f) (nth_field index fields)
  nth_to index no_fields = refl
  nth_to zero (field_then value rest) = refl
  nth_to (suc index) (field_then value rest) = nth_to index rest

  pub field_to : (index : ℕ) (value : Value T)
      → field index (value_to f value) ≡ option_map (value_to f) (field index value)
  field_to index unit = refl
  field_to index (truth b) = refl
  field_to index (number kind z) = refl
  field_to index (text t) = refl
  field_to index (made tag birth fields) = nth_to index fields
  field_to index (reference borrow place) = refl
  field_to index (box birth) = refl
  field_to index (buffer birth) = refl
  field_to index (terminal birth) = refl
  field_to index (root birth) = refl

  along_to : (path : List ℕ) (o : Option (Value T))
      → ((value : Value T) → part path (value_to f value) ≡ option_map (value_to f) (part path value))
      → along (option_map (value_to f) o) (part path) ≡ option_map (value_to f) (along o (part path))
  along_to path None h = refl
  along_to path (Some one) h = h one

  pub part_to : (path : List ℕ) (value : Value T)
      → part path (value_to f value) ≡ option_map (value_to f) (part path value)
  part_to [] value = refl
  part_to (index ∷ path) value =
      ap (λ o. along o (part path)) (field_to index value)
      ∙ along_to path (field index value) (λ one. part_to path one)

  nth_with : (index : ℕ) (change : Value T → Value T) (also : Value S → Value S)
      → ((value : Value T) → also (value_to f value) ≡ value_to f (change value)) → (fields : Fields T)
      → with_nth index also (fields_to f fields) ≡ fields_to f (with_nth index change fields)
  nth_with index change also e no_fields = refl
  nth_with zero change also e (field_then value rest) = ap (λ v. field_then v (fields_to f rest)) (e value)
  nth_with (suc index) change also e (field_then value rest) =
      ap (λ fs. field_then (value_to f value) fs) (nth_with index change also e rest)

  field_with : (index : ℕ) (change : Value T → Value T) (also : Value S → Value S)
      → ((value : Value T) → also (value_to f value) ≡ value_to f (change value)) → (value : Value T)
      → with_field index also (value_to f value) ≡ value_to f (with_field index change value)
  field_with index change also e unit = refl
  field_with index change also e (truth b) = refl
  field_with index change also e (number kind z) = refl
  field_with index change also e (text t) = refl
  field_with index change also e (made tag birth fields) = ap (λ fs. made tag birth fs) (nth_with index
      change also e fields)
  field_with index change also e (reference borrow place) = refl
  field_with index change also e (box birth) = refl
  field_with index change also e (buffer birth) = refl
  field_with index change also e (terminal birth) = refl
  field_with index change also e (root birth) = refl

  pub with_part_to : (path : List ℕ) (new value : Value T)
      → with_part path (value_to f new) (value_to f value) ≡ value_to f (with_part path new value)
  with_part_to [] new value = refl
  with_part_to (index ∷ path) new value =
      field_with index (with_part path new) (with_part path (value_to f new)) (λ v. with_part_to path new v)
      value

  pub listed_to : (fields : Fields T) → listed (fields_to f fields) ≡ map (value_to f) (listed fields)
  listed_to no_fields = refl
  listed_to (field_then value rest) = ap (λ vs. value_to f value ∷ vs) (listed_to rest)

  pub fields_of_to : (values : List (Value T)) → fields_of (map (value_to f) values)
      ≡ fields_to f (fields_of values)
  fields_of_to [] = refl
  fields_of_to (value ∷ rest) = ap (λ fs. field_then (value_to f value) fs) (fields_of_to rest)

  -- ---- what a value is

  pub number_in_to : (value : Value T) → number_in (value_to f value) ≡ number_in value
  number_in_to unit = refl
  number_in_to (truth b) = refl
  number_in_to (number kind z) = refl
  number_in_to (text t) = refl
  number_in_to (made tag birth fields) = refl
  number_in_to (reference borrow place) = refl
  number_in_to (box birth) = refl
  number_in_to (buffer birth) = refl
  number_in_to (terminal birth) = refl
  number_in_to (root birth) = refl

  pub number_of_to : (kind : IntKind) (value : Value T) → number_of kind (value_to f value)
      ≡ number_of kind value
  number_of_to kind value = ap (λ o. if_of kind o) (number_in_to value)

  pub truth_in_to : (value : Value T) → truth_in (value_to f value) ≡ truth_in value
  truth_in_to unit = refl
  truth_in_to (truth b) = refl
  truth_in_to (number kind z) = refl
  truth_in_to (text t) = refl
  truth_in_to (made tag birth fields) = refl
  truth_in_to (reference borrow place) = refl
  truth_in_to (box birth) = refl
  truth_in_to (buffer birth) = refl
  truth_in_to (terminal birth) = refl
  truth_in_to (root birth) = refl

  pub text_in_to : (value : Value T) → text_in (value_to f value) ≡ option_map f.text (text_in value)
  text_in_to unit = refl
  text_in_to (truth b) = refl
  text_in_to (number kind z) = refl
  text_in_to (text t) = refl
  text_in_to (made tag birth fields) = refl
  text_in_to (reference borrow place) = refl
  text_in_to (box birth) = refl
  text_in_to (buffer birth) = refl
  text_in_to (terminal birth) = refl
  text_in_to (root birth) = refl

  -- the root, the box, the buffer and the terminal that a value is
  pub root_in_to : (value : Value T) → root_in (value_to f value) ≡ root_in value
  root_in_to (root birth) = refl
  root_in_to other = refl

  pub box_in_to : (value : Value T) → box_in (value_to f value) ≡ box_in value
  box_in_to (box birth) = refl
  box_in_to other = refl

  pub buffer_in_to : (value : Value T) → buffer_in (value_to f value) ≡ buffer_in value
  buffer_in_to (buffer birth) = refl
  buffer_in_to other = refl

  pub terminal_in_to : (value : Value T) → terminal_in (value_to f value) ≡ terminal_in value
  terminal_in_to (terminal birth) = refl
  terminal_in_to other = refl

  -- ---- operations

  both_to : {A : Type 0} (go : A → A → Result T) (also : A → A → Result S)
      → ((x y : A) → also x y ≡ result_to f (go x y)) → (a b : Option A)
      → on_both also a b ≡ result_to f (on_both go a b)
  both_to go also e None b = refl
  both_to go also e (Some a) None = refl
  both_to go also e (Some a) (Some b) = e a b

  or_fault_to : (kind : IntKind) (z : Option ℤ) → number_or_fault kind z
      ≡ result_to f (number_or_fault kind z)
  or_fault_to kind None = refl
  or_fault_to kind (Some z) = refl

  -- an operation on two numbers of a kind
  numbers_to : (kind : IntKind) (go : ℤ → ℤ → Result T) (also : ℤ → ℤ → Result S)
      → ((x y : ℤ) → also x y ≡ result_to f (go x y)) → (a b : Value T)
      → on_both also (number_of kind (value_to f a)) (number_of kind (value_to f b))
      ≡ result_to f (on_both go (number_of kind a) (number_of kind b))
  numbers_to kind go also e a b =
      ap₂ (λ x y. on_both also x y) (number_of_to kind a) (number_of_to kind b)
      ∙ both_to go also e (number_of kind a) (number_of kind b)

  pub computed_to : (op : IntOp) (kind : IntKind) (a b : Value T)
      → computed op kind (value_to f a) (value_to f b) ≡ result_to f (computed op kind a b)
  computed_to op kind a b =
      numbers_to kind (λ x y. number_or_fault kind (trapped op kind x y)) (λ x y. number_or_fault kind
      (trapped op kind x y))
      (λ x y. or_fault_to kind (trapped op kind x y)) a b

  pub wrapped_to : (op : WrapOp) (kind : IntKind) (a b : Value T)
      → wrapped_around op kind (value_to f a) (value_to f b) ≡ result_to f (wrapped_around op kind a b)
  wrapped_to op kind a b = numbers_to kind _ _ (λ x y. refl) a b

  truths_to : (by : Order) (a b : Bool) → compared_truths by a b ≡ result_to f (compared_truths by a b)
  truths_to order.Equal a b = refl
  truths_to order.NotEqual a b = refl
  truths_to order.Less a b = refl
  truths_to order.LessEqual a b = refl
  truths_to order.Greater a b = refl
  truths_to order.GreaterEqual a b = refl

  pub compared_to : (by : Order) (kind : Option IntKind) (a b : Value T)
      → compared by kind (value_to f a) (value_to f b) ≡ result_to f (compared by kind a b)
  compared_to by None a b =
      ap₂ (λ x y. on_both (compared_truths by) x y) (truth_in_to a) (truth_in_to b)
      ∙ both_to (compared_truths by) (compared_truths by) (truths_to by) (truth_in a) (truth_in b)
  compared_to by (Some kind) a b = numbers_to kind _ _ (λ x y. refl) a b

  turned_to : (b : Option Bool) → turned b ≡ result_to f (turned b)
  turned_to None = refl
  turned_to (Some b) = refl

  pub negated_to : (a : Value T) → negated (value_to f a) ≡ result_to f (negated a)
  negated_to a = ap (λ b. turned b) (truth_in_to a) ∙ turned_to (truth_in a)

  optional_to : (kind : IntKind) (z : Option ℤ) → optional (at_kind kind z)
      ≡ value_to f (optional (at_kind kind z))
  optional_to kind None = refl
  optional_to kind (Some z) = refl

  from_to : (kind : IntKind) (o : Option (IntKind × ℤ)) → converted_from kind o
      ≡ result_to f (converted_from kind o)
  from_to kind None = refl
  from_to kind (Some one) = ap (λ v. answer.value v) (optional_to kind (converted kind one.1))

  pub converted_to : (kind : IntKind) (a : Value T) → converted_value kind (value_to f a)
      ≡ result_to f (converted_value kind a)
  converted_to kind a = ap (λ o. converted_from kind o) (number_in_to a) ∙ from_to kind (number_in a)
