-- What written types mean, case by case. The definition is opaque; these equations stand for it, and
-- `meant_steps` names them.
use Rattle.std.proofs.Common.{◌≡◌, ℕ, ◌+◌, ◌<◌, ◌≤◌, List, [], ◌∷◌, ◌++◌, map, length, drop, get_or, suc}
use Rattle.std.proofs.Common.{Option, None, Some, Vec, refl, sym, ap, subst, ◌∙◌}
use Rattle.std.proofs.lemmas.List.{drop_more, drop_all, nil_from_length}
use Rattle.std.proofs.lemmas.Option.{slice_get_within, get_or_from_slice_get, none-some, same_Some}
use Rattle.std.specs.Prelude.{slice_get}
use Rattle.std.specs.Global.{Global}
use Rattle.std.specs.declared.boxed.Box.{Box}
use Rattle.std.specs.Option.{option_map}
use Rattle.au_base.specs.declared.places.Pos.{Pos}
use Rattle.au_syntax.specs.declared.types.Access.{Access}
use Rattle.au_syntax.proofs.TypeLemmas.{named_written, reference_written}
use Rattle.au_syntax.specs.declared.types.TypeName.{TypeName}
use Rattle.au_syntax.specs.declared.types.TypeText.{TypeText, Named, Reference}
use Rattle.au_syntax.specs.Names.{Placed}
use Rattle.au_syntax.specs.Plain.{Bytes}
use Rattle.au_syntax.specs.Types.{WrittenType, named, reference}
use Rattle.au_syntax.specs.Views.{written, written_all, type_name}
use Rattle.au_types.specs.declared.headings.Head.{Head}
use Rattle.au_types.specs.declared.parameters.Parameter.{Parameter}
use Rattle.au_types.specs.declared.types.Arg.{Arg}
use Rattle.au_types.specs.declared.types.DeclAt.{DeclAt}
use Rattle.au_types.specs.declared.types.Region.{Region}
use Rattle.au_types.specs.Types as mean
use Rattle.au_types.specs.Types.{Meaning, Argument, Arguments}
use Rattle.au_types.specs.Views.{argument, argument_all}
use Rattle.au_types.specs.Senses.{sense_of}
use Rattle.au_types.specs.Meant.{Given, refers, followed, region_of, span_of, span_with, alone, region_meant}
use Rattle.au_types.specs.Meant.{meant, all_given, applied, arguments_meant, argument_meant}

-- no type with arguments is one without
pub alone_with : {A : Type 0} (f : A → Given) (t : Meaning) (args : List A) → (args ≡ [] → ⊥) →
    alone t (map f args) ≡ None
alone_with f t [] some = absurd (some refl)
alone_with f t (one ∷ rest) some = refl

-- `Span` has two arguments
pub span_of_two : {A : Type 0} (f : A → Given) (args : List A) (d e : A) → length args ≡ 2 →
    span_with (map f args) ≡ span_of (f (get_or args 0 d)).as_type (f (get_or args 1 e)).as_region
span_of_two f [] d e two = absurd cc
span_of_two f (t ∷ []) d e two = absurd cc
span_of_two f (t ∷ region ∷ []) d e two = refl
span_of_two f (t ∷ region ∷ more ∷ rest) d e two = absurd cc

pub span_of_others : {A : Type 0} (f : A → Given) (args : List A) → (length args ≡ 2 → ⊥) →
    span_with (map f args) ≡ None
span_of_others f [] other = refl
span_of_others f (t ∷ []) other = refl
span_of_others f (t ∷ region ∷ []) other = absurd (other refl)
span_of_others f (t ∷ region ∷ more ∷ rest) other = refl

-- arguments behind others
pub joined : Arguments → Arguments → Arguments
joined mean.no_arguments rest = rest
joined (mean.arguments one before) rest = mean.arguments one (joined before rest)

pub joined_none : (before : Arguments) → joined before mean.no_arguments ≡ before
unfolding joined
joined_none mean.no_arguments = refl
joined_none (mean.arguments one before) = ap (mean.arguments one) (joined_none before)

pub joined_push : (before : List Arg) (one : Arg) (rest : Arguments) →
    joined (argument_all (before ++ one ∷ [])) rest ≡ joined (argument_all before)
    (mean.arguments (argument one) rest)
unfolding joined
joined_push [] one rest = refl
joined_push (first ∷ before) one rest = ap (mean.arguments (argument first)) (joined_push before one rest)

pub joined_start : (rest : Option Arguments) → option_map (joined mean.no_arguments) rest ≡ rest
unfolding joined
joined_start None = refl
joined_start (Some rest) = refl

-- an argument more before others
pub joined_more : (before : List Arg) (one : Arg) (rest : Option Arguments) →
    option_map (joined (argument_all before)) (followed (Some (argument one)) rest)
    ≡ option_map (joined (argument_all (before ++ one ∷ []))) rest
joined_more before one None = refl
joined_more before one (Some rest) = ap Some (sym (joined_push before one rest))

pub followed_none : (one : Option Argument) → followed one None ≡ None
followed_none None = refl
followed_none (Some one) = refl

-- arguments that follow one another are both there
pub followed_both : (o : Option Argument) (p : Option Arguments) (args : Arguments) → followed o p ≡ Some args
    → (one : Argument) × (rest : Arguments) × (o ≡ Some one) × (p ≡ Some rest)
    × (mean.arguments one rest ≡ args)
followed_both None p args e = absurd (none-some args e)
followed_both (Some one) None args e = absurd (none-some args e)
followed_both (Some one) (Some rest) args e =
    (one, rest, refl, refl, same_Some (mean.arguments one rest) args e)

-- arguments that don't fit in number mean nothing
pub arguments_unequal : {A : Type 0} (f : A → Given) (args : List A) (expected : List Parameter) →
    (length args ≡ length expected → ⊥) → arguments_meant expected (map f args) ≡ None
arguments_unequal f [] [] other = absurd (other refl)
arguments_unequal f [] (one ∷ others) other = refl
arguments_unequal f (t ∷ rest) [] other = refl
arguments_unequal f (t ∷ rest) (one ∷ others) other =
    ap (followed (argument_meant one.universe (f t))) (arguments_unequal f rest others (λ e. other (ap suc e)))
    ∙ followed_none (argument_meant one.universe (f t))

-- the first of the arguments that are left
pub arguments_step : {A : Type 0} (f : A → Given) (expected : List Parameter) (args : List A) (i : ℕ)
    (one : Parameter) (d : A) → slice_get expected i ≡ Some one → i < length args →
    arguments_meant (drop i expected) (map f (drop i args))
    ≡ followed (argument_meant one.universe (f (get_or args i d)))
    (arguments_meant (drop (i + 1) expected) (map f (drop (i + 1) args)))
arguments_step f expected args i one d stands inside =
    let first = drop_more expected i one (slice_get_within expected i one stands) in
    let same = get_or_from_slice_get expected i one one stands in
    ap (λ ps. arguments_meant ps (map f (drop i args))) (first ∙ ap (λ p. p ∷ drop (i + 1) expected) same)
    ∙ ap (λ ts. arguments_meant (one ∷ drop (i + 1) expected) (map f ts)) (drop_more args i d inside)

-- arguments that are left mean what the first of them and then the others mean
pub taken : {A : Type 0} (f : A → Given) (expected : List Parameter) (args items : List A) (i : ℕ)
    (one : Parameter) (item : A) (before : Arguments) (found : Option Argument) →
    arguments_meant expected (map f args) ≡ option_map (joined before)
    (arguments_meant (drop i expected) (map f (drop i args))) →
    slice_get expected i ≡ Some one → items ≡ args → i < length items → item ≡ get_or items i item →
    found ≡ argument_meant one.universe (f item) →
    arguments_meant expected (map f args) ≡ option_map (joined before)
    (followed found (arguments_meant (drop (i + 1) expected) (map f (drop (i + 1) args))))
taken f expected args items i one item before found so_far stands same inside is means =
    let within : i < length args = subst (λ xs. i < length xs) same inside in
    let here : item ≡ get_or args i item = is ∙ ap (λ xs. get_or xs i item) same in
    let gives : argument_meant one.universe (f (get_or args i item)) ≡ found =
    sym (means ∙ ap (λ t. argument_meant one.universe (f t)) here) in
    so_far
    ∙ ap (option_map (joined before)) (arguments_step f expected args i one item stands within
    ∙ ap (λ x. followed x (arguments_meant (drop (i + 1) expected) (map f (drop (i + 1) args)))) gives)

-- what was found is all where no arguments are left
pub finished : {A : Type 0} (f : A → Given) (expected : List Parameter) (args items : List A) (i : ℕ)
    (before : Arguments) →
    length args ≡ length expected →
    arguments_meant expected (map f args) ≡ option_map (joined before)
    (arguments_meant (drop i expected) (map f (drop i args))) →
    items ≡ args → length items ≤ i → Some before ≡ arguments_meant expected (map f args)
finished f expected args items i before lengths so_far same done =
    let past : length args ≤ i = subst (λ xs. length xs ≤ i) same done in
    let past_too : length expected ≤ i = subst (λ n. n ≤ i) lengths past in
    sym (so_far
    ∙ ap (λ ps. option_map (joined before) (arguments_meant ps (map f (drop i args)))) (drop_all i expected past_too)
    ∙ ap (λ ts. option_map (joined before) (arguments_meant [] (map f ts))) (drop_all i args past)
    ∙ ap Some (joined_none before))

module _ (opened : List Bytes) (params : List Parameter) (visible : List (Bytes × DeclAt))
    (heads : List (DeclAt × Head)) where
  pub region_with : (name : Placed (List ℕ)) (args : List TypeText) → (args ≡ [] → ⊥) →
      region_meant opened params visible heads (named name (written_all args)) ≡ None
  region_with name [] some = absurd (some refl)
  region_with name (one ∷ rest) some = refl

  -- a name alone
  pub region_alone : (node : TypeText) (name : TypeName) (args : Vec TypeText Global) →
      node ≡ Named name args → length args.items ≡ 0 →
      region_of (sense_of opened params visible heads name.name) ≡ region_meant opened params visible heads
      (written node)
  region_alone node name args is none =
      sym (ap (λ t. region_meant opened params visible heads (written t)) is
      ∙ ap (region_meant opened params visible heads) (named_written name args)
      ∙ ap (λ all. region_meant opened params visible heads (named (type_name name) (written_all all)))
      (nil_from_length args.items none))

  -- the arguments of a type of the code
  pub given_is : (args : List TypeText) → all_given opened params visible heads (written_all args)
      ≡ map (λ t. record {
        as_type = meant opened params visible heads (written t);
        as_region =
            region_meant opened params visible heads (written t);
      }) args
  unfolding all_given
  given_is [] = refl
  given_is (t ∷ rest) = ap (λ all. record {
    as_type = meant opened params visible heads (written t);
    as_region =
        region_meant opened params visible heads (written t);
  } ∷ all) (given_is rest)

  pub named_meant : (name : Placed (List ℕ)) (args : List TypeText) →
      meant opened params visible heads (named name (written_all args))
      ≡ applied (sense_of opened params visible heads name.name)
      (map (λ t. record {
        as_type = meant opened params visible heads (written t);
        as_region =
            region_meant opened params visible heads (written t);
      }) args)
  unfolding meant
  named_meant name args = ap (applied (sense_of opened params visible heads name.name)) (given_is args)

  pub reference_meant : (at : Pos) (kind : Access) (target : WrittenType) (region : Placed (List ℕ)) →
      meant opened params visible heads (reference at kind target region)
      ≡ refers kind (meant opened params visible heads target)
      (region_of (sense_of opened params visible heads region.name))
  unfolding meant
  reference_meant at kind target region = refl

  -- a reference
  pub reference_is : (node : TypeText) (at : Pos) (kind : Access) (target : Box TypeText Global)
      (inner : TypeText) (region : TypeName) (t : Option Meaning) (r : Option Region) →
      node ≡ Reference at kind target region → inner ≡ target.value → t ≡ meant opened params visible heads
      (written inner) → r ≡ region_of (sense_of opened params visible heads region.name) →
      refers kind t r ≡ meant opened params visible heads (written node)
  reference_is node at kind target inner region t r is inside type_is region_is =
      ap (λ x. refers kind x r) (type_is ∙ ap (λ n. meant opened params visible heads (written n)) inside)
      ∙ ap (refers kind (meant opened params visible heads (written target.value))) region_is
      ∙ sym (ap (λ n. meant opened params visible heads (written n)) is
      ∙ ap (meant opened params visible heads) (reference_written at kind target region)
      ∙ reference_meant at kind (written target.value) (type_name region))

pub ruleset meant_steps = (alone_with, region_with, named_meant, reference_meant, span_of_others)
