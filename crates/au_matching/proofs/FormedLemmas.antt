-- What is found of types whose arguments fit, case by case. The definitions are opaque; these equations
-- stand for them.
use Rattle.std.proofs.Common.{◌≡◌, ℕ, ◌+◌, ◌<◌, ◌≤◌, List, [], ◌∷◌, ◌++◌, length, drop, get_or, suc, Bool}
use Rattle.std.proofs.Common.{true, false, ◌&&◌, Option, None, Some, refl, sym, ap, subst, ◌∙◌}
use Rattle.std.specs.Prelude.{if◌then◌else◌, is_some, slice_get, unwrap_or}
use Rattle.std.specs.Option.{option_map}
use Rattle.std.proofs.lemmas.Bool.{and_right}
use Rattle.std.proofs.lemmas.List.{drop_more, drop_all}
use Rattle.std.proofs.lemmas.Option.{slice_get_within, get_or_from_slice_get}
use Rattle.au_base.specs.declared.kinds.IntKind.{IntKind}
use Rattle.au_syntax.specs.declared.declarations.Universe.{Universe}
use Rattle.au_types.specs.declared.headings.Head.{Head}
use Rattle.au_types.specs.declared.parameters.Parameter.{Parameter}
use Rattle.au_types.specs.declared.types.Arg.{Arg}
use Rattle.au_types.specs.declared.types.DeclAt.{DeclAt}
use Rattle.au_types.specs.declared.types.Region.{Region}
use Rattle.au_types.specs.Rows.{head_of}
use Rattle.au_types.specs.Types.{Meaning, Argument, Arguments, unit, truth, integer, text, parameter, named}
use Rattle.au_types.specs.Types.{reads, writes, of_type, in_region, no_arguments, arguments}
use Rattle.au_types.specs.Universes.{universe_in}
use Rattle.au_types.specs.Views.{argument, argument_all}
use Rattle.au_matching.specs.declared.forming.Fit.{Fit}
use Rattle.au_matching.specs.declared.forming.Fit.TheVariants.{InKind, InUniverse}
use Rattle.au_matching.specs.declared.universes.TypeUniverse.{TypeUniverse}
use Rattle.au_matching.specs.declared.universes.TypeUniverse.TheVariants.{Free, Linear, AnyUniverse}
use Rattle.au_matching.specs.Fits.{asked, formed_argument, formed_arguments, formed_universe, taken_by, takes_by}
use Rattle.au_matching.specs.Forming.{wants_region, fits, fits_in_kind, all_fit, fit_row, is_formed}
use Rattle.au_matching.specs.Forming.{argument_formed, all_formed}
use Rattle.au_matching.specs.Joined.{joined}
use Rattle.au_matching.specs.Universes.{judged, of_declaration, of_parameter, of_row, universe_of}
use Rattle.au_matching.specs.Universes.{argument_universe, argument_universes}
use Rattle.au_matching.proofs.UniverseLemmas.{joined_end, joined_joined, judged_both, judged_empty, judged_one}

-- ---- choices by a test

some_if : (b : Bool) (one : TypeUniverse) → is_some (if b then Some one else None) ≡ b
some_if true one = refl
some_if false one = refl

map_if : (f : TypeUniverse → TypeUniverse) (b : Bool) (one : TypeUniverse) →
    (if b then Some (f one) else None) ≡ option_map f (if b then Some one else None)
map_if f true one = refl
map_if f false one = refl

parameter_if : (o : Option TypeUniverse) (other : TypeUniverse) →
    (if is_some o then Some (unwrap_or o other) else None) ≡ o
parameter_if None other = refl
parameter_if (Some one) other = refl

-- ---- one before others

-- what one and others come to, where both come to something
abbrev pub beside : Option TypeUniverse → Option TypeUniverse → Option TypeUniverse
beside (Some one) (Some other) = Some (joined one other)
beside one other = None

pub beside_more : (one other : TypeUniverse) (rest : Option TypeUniverse) →
    beside (Some one) (beside (Some other) rest) ≡ beside (Some (joined one other)) rest
beside_more one other None = refl
beside_more one other (Some last) = ap Some (joined_joined one other last)

pub beside_start : (rest : Option TypeUniverse) → rest ≡ beside (Some Free) rest
beside_start None = refl
beside_start (Some last) = refl

beside_if : (f fs w ws : Bool) (one rest : List TypeUniverse) →
    (if (f && fs) && (w && ws) then Some (judged (one ++ rest)) else None)
    ≡ beside (if f && w then Some (judged one) else None) (if fs && ws then Some (judged rest) else None)
beside_if false fs w ws one rest = refl
beside_if true false false ws one rest = refl
beside_if true true false ws one rest = refl
beside_if true false true ws one rest = refl
beside_if true true true false one rest = refl
beside_if true true true true one rest = ap Some (judged_both one rest)

-- ---- types

module _ (test : Universe → Argument → Bool) (rows : List (DeclAt × Head)) (params : List Parameter) where
  pub formed_is_some : (t : Meaning) → is_some (formed_universe test rows params t) ≡ is_formed test rows params t
  unfolding formed_universe
  formed_is_some t = some_if (is_formed test rows params t) (universe_of rows params t)

  pub unit_formed : formed_universe test rows params unit ≡ Some Free
  unfolding formed_universe is_formed universe_of
  unit_formed = refl

  pub truth_formed : formed_universe test rows params truth ≡ Some Free
  unfolding formed_universe is_formed universe_of
  truth_formed = refl

  pub integer_formed : (kind : IntKind) → formed_universe test rows params (integer kind) ≡ Some Free
  unfolding formed_universe is_formed universe_of
  integer_formed kind = refl

  pub text_formed : formed_universe test rows params text ≡ Some Free
  unfolding formed_universe is_formed universe_of
  text_formed = refl

  pub parameter_formed : (name : List ℕ) → formed_universe test rows params (parameter name)
      ≡ of_parameter (universe_in params name)
  unfolding formed_universe is_formed universe_of
  parameter_formed name = parameter_if (of_parameter (universe_in params name)) AnyUniverse

  pub reads_formed : (t : Meaning) (region : Region) → formed_universe test rows params (reads t region)
      ≡ option_map (λ _. Free) (formed_universe test rows params t)
  unfolding formed_universe is_formed universe_of
  reads_formed t region = map_if (λ _. Free) (is_formed test rows params t) (universe_of rows params t)

  pub writes_formed : (t : Meaning) (region : Region) → formed_universe test rows params (writes t region)
      ≡ option_map (λ _. Linear) (formed_universe test rows params t)
  unfolding formed_universe is_formed universe_of
  writes_formed t region = map_if (λ _. Linear) (is_formed test rows params t) (universe_of rows params t)

  pub rowless_formed : (at : DeclAt) (args : Arguments) → head_of rows at ≡ None →
      formed_universe test rows params (named at args) ≡ None
  unfolding formed_universe is_formed universe_of
  rowless_formed at args none = ap
      (λ row. if fit_row test row args && all_formed test rows params args then Some
      (of_row row (judged (argument_universes rows params args))) else None) none

  pub declared_formed : (at : DeclAt) (args : Arguments) (head : Head) → head_of rows at ≡ Some head →
      formed_universe test rows params (named at args) ≡ option_map (of_declaration head.universe)
      (formed_arguments test rows params head.params args)
  unfolding formed_universe formed_arguments is_formed universe_of
  declared_formed at args head stands =
      ap (λ row. if fit_row test row args && all_formed test rows params args then Some
      (of_row row (judged (argument_universes rows params args))) else None) stands
      ∙ map_if (of_declaration head.universe)
      (all_fit test head.params args && all_formed test rows params args)
      (judged (argument_universes rows params args))

  -- ---- arguments

  none_formed : formed_arguments test rows params [] no_arguments ≡ Some Free
  unfolding formed_arguments all_formed argument_universes
  none_formed = ap Some judged_empty

  first_formed : (one : Parameter) (others : List Parameter) (first : Argument) (rest : Arguments) →
      formed_arguments test rows params (one ∷ others) (arguments first rest)
      ≡ beside (formed_argument test rows params one.universe first)
      (formed_arguments test rows params others rest)
  unfolding formed_arguments formed_argument all_formed argument_universes
  first_formed one others first rest =
      beside_if (test one.universe first) (all_fit test others rest) (argument_formed test rows params first)
      (all_formed test rows params rest)
      (argument_universe rows params first) (argument_universes rows params rest)

  -- as many arguments as parameters
  unequal : (expected : List Parameter) (args : List Arg) → (length args ≡ length expected → ⊥) →
      all_fit test expected (argument_all args) ≡ false
  unequal [] [] other = absurd (other refl)
  unequal [] (one ∷ rest) other = refl
  unequal (first ∷ others) [] other = refl
  unequal (first ∷ others) (one ∷ rest) other =
      and_right (test first.universe (argument one)) (all_fit test others (argument_all rest))
      (unequal others rest (λ e. other (ap suc e)))

  pub unequal_formed : (expected : List Parameter) (args : List Arg) → (length args ≡ length expected → ⊥) →
      formed_arguments test rows params expected (argument_all args) ≡ None
  unfolding formed_arguments
  unequal_formed expected args other =
      ap (λ b. if b && all_formed test rows params (argument_all args) then Some
      (judged (argument_universes rows params (argument_all args))) else None) (unequal expected args other)

  -- the first of the arguments that are left
  step_formed : (expected : List Parameter) (args : List Arg) (i : ℕ) (one : Parameter) (d : Arg) →
      slice_get expected i ≡ Some one → i < length args →
      formed_arguments test rows params (drop i expected) (argument_all (drop i args))
      ≡ beside (formed_argument test rows params one.universe (argument (get_or args i d)))
      (formed_arguments test rows params (drop (i + 1) expected) (argument_all (drop (i + 1) args)))
  step_formed expected args i one d stands inside =
      let first = drop_more expected i one (slice_get_within expected i one stands) in
      let same = get_or_from_slice_get expected i one one stands in
      ap (λ ps. formed_arguments test rows params ps (argument_all (drop i args)))
      (first ∙ ap (λ p. p ∷ drop (i + 1) expected) same)
      ∙ ap (λ xs. formed_arguments test rows params (one ∷ drop (i + 1) expected) (argument_all xs))
      (drop_more args i d inside)
      ∙ first_formed one (drop (i + 1) expected) (argument (get_or args i d)) (argument_all (drop (i + 1) args))

  -- arguments that are left come to what the first of them and then the others come to
  pub taken_formed : (expected : List Parameter) (args items : List Arg) (i : ℕ) (one : Parameter)
      (item : Arg) (so_far : TypeUniverse) (found : Option TypeUniverse) →
      formed_arguments test rows params expected (argument_all args) ≡ beside (Some so_far)
      (formed_arguments test rows params (drop i expected) (argument_all (drop i args))) →
      slice_get expected i ≡ Some one → items ≡ args → i < length items → item ≡ get_or items i item →
      found ≡ formed_argument test rows params one.universe (argument item) →
      formed_arguments test rows params expected (argument_all args) ≡ beside (Some so_far)
      (beside found (formed_arguments test rows params (drop (i + 1) expected)
      (argument_all (drop (i + 1) args))))
  taken_formed expected args items i one item so_far found known stands same inside is comes =
      let within : i < length args = subst (λ xs. i < length xs) same inside in
      let here : item ≡ get_or args i item = is ∙ ap (λ xs. get_or xs i item) same in
      let gives : formed_argument test rows params one.universe (argument (get_or args i item)) ≡ found =
      sym (comes ∙ ap (λ x. formed_argument test rows params one.universe (argument x)) here) in
      known
      ∙ ap (beside (Some so_far)) (step_formed expected args i one item stands within
      ∙ ap (λ o. beside o (formed_arguments test rows params (drop (i + 1) expected)
      (argument_all (drop (i + 1) args)))) gives)

  -- what was found is all where no arguments are left
  pub finished_formed : (expected : List Parameter) (args items : List Arg) (i : ℕ) (so_far : TypeUniverse) →
      length args ≡ length expected →
      formed_arguments test rows params expected (argument_all args) ≡ beside (Some so_far)
      (formed_arguments test rows params (drop i expected) (argument_all (drop i args))) →
      items ≡ args → length items ≤ i → Some so_far ≡ formed_arguments test rows params expected (argument_all args)
  finished_formed expected args items i so_far lengths known same done =
      let past : length args ≤ i = subst (λ xs. length xs ≤ i) same done in
      let past_too : length expected ≤ i = subst (λ n. n ≤ i) lengths past in
      sym (known
      ∙ ap (λ ps. beside (Some so_far) (formed_arguments test rows params ps (argument_all (drop i args))))
      (drop_all i expected past_too)
      ∙ ap (λ xs. beside (Some so_far) (formed_arguments test rows params [] (argument_all xs))) (drop_all i args past)
      ∙ ap (beside (Some so_far)) none_formed
      ∙ ap Some (joined_end so_far))

-- ---- arguments by what is asked of them

kept_one : (b : Bool) (one : TypeUniverse) → (if b && true then Some (judged (one ∷ [])) else None)
    ≡ (if b then Some one else None)
kept_one true one = ap Some (judged_one one)
kept_one false one = refl

kept_none : (b : Bool) (o : Option TypeUniverse) → (if b && false then o else None) ≡ None
kept_none true o = refl
kept_none false o = refl

kept_empty : (b : Bool) → (if b && true then Some (judged []) else None) ≡ (if b then Some Free else None)
kept_empty true = ap Some judged_empty
kept_empty false = refl

pub asked_kind : (rows : List (DeclAt × Head)) (params : List Parameter) → asked InKind rows params ≡ fits_in_kind
unfolding asked
asked_kind rows params = refl

pub asked_universe : (rows : List (DeclAt × Head)) (params : List Parameter) → asked InUniverse rows params
    ≡ fits rows params
unfolding asked
asked_universe rows params = refl

asked_type : (fit : Fit) (rows : List (DeclAt × Head)) (params : List Parameter) (wanted : Universe)
    (t : Meaning) → asked fit rows params wanted (of_type t) ≡ takes_by fit wanted (universe_of rows params t)
unfolding asked
asked_type InKind rows params wanted t = refl
asked_type InUniverse rows params wanted t = refl

asked_region : (fit : Fit) (rows : List (DeclAt × Head)) (params : List Parameter) (wanted : Universe)
    (region : Region) → asked fit rows params wanted (in_region region) ≡ wants_region wanted
unfolding asked
asked_region InKind rows params wanted region = refl
asked_region InUniverse rows params wanted region = refl

taken_if : (fit : Fit) (wanted : Universe) (one : TypeUniverse) (b : Bool) →
    (if takes_by fit wanted one && b then Some (judged (one ∷ [])) else None) ≡ taken_by fit wanted
    (if b then Some one else None)
taken_if fit wanted one true = kept_one (takes_by fit wanted one) one
taken_if fit wanted one false = kept_none (takes_by fit wanted one) (Some (judged (one ∷ [])))

pub type_taken : (fit : Fit) (rows : List (DeclAt × Head)) (params : List Parameter) (wanted : Universe) (t : Meaning) →
    formed_argument (asked fit rows params) rows params wanted (of_type t) ≡ taken_by fit wanted
    (formed_universe (asked fit rows params) rows params t)
unfolding formed_argument formed_universe argument_formed argument_universe
type_taken fit rows params wanted t =
    ap (λ b. if b && is_formed (asked fit rows params) rows params t then Some
    (judged (universe_of rows params t ∷ [])) else None) (asked_type fit rows params wanted t)
    ∙ taken_if fit wanted (universe_of rows params t) (is_formed (asked fit rows params) rows params t)

pub region_taken : (fit : Fit) (rows : List (DeclAt × Head)) (params : List Parameter) (wanted : Universe)
    (region : Region) →
    formed_argument (asked fit rows params) rows params wanted (in_region region)
    ≡ (if wants_region wanted then Some Free else None)
unfolding formed_argument argument_formed argument_universe
region_taken fit rows params wanted region =
    ap (λ b. if b && true then Some (judged []) else None) (asked_region fit rows params wanted region)
    ∙ kept_empty (wants_region wanted)

pub ruleset formed_steps = (
  unit_formed,
  truth_formed,
  integer_formed,
  text_formed,
  parameter_formed,
  reads_formed,
  writes_formed,
)

pub ruleset declared_steps = (rowless_formed, declared_formed)

pub ruleset argument_steps = (type_taken, region_taken)
