-- What is given, told apart, and what it makes of arguments.
use Rattle.std.proofs.Common.{◌≡◌, ℕ, suc, ◌+◌, ◌<◌, Bool, true, false, List, [], ◌∷◌, ◌++◌, ◌&&◌, length}
use Rattle.std.proofs.Common.{take, get_or, refl, sym, ap, ◌∙◌}
use Rattle.std.specs.Prelude.{Option, None, Some}
use Rattle.std.specs.Option.{option_map}
use Rattle.std.specs.Str.{bytes_eq}
use Rattle.std.proofs.lemmas.Bool.{and_from, and_parts}
use Rattle.std.proofs.lemmas.List.{take_more}
use Rattle.std.proofs.lemmas.Slice.Eq.{bytes_eq-Decides}
use Rattle.au_syntax.specs.Plain.{Bytes}
use Rattle.au_types.specs.declared.types.Arg.{Arg}
use Rattle.au_types.specs.declared.types.Region.{Region}
use Rattle.au_types.specs.Types as whole
use Rattle.au_types.specs.Types.{Argument, Arguments, Meaning, arguments, in_region, no_arguments, of_type}
use Rattle.au_types.specs.Views.{argument, argument_all}
use Rattle.au_matching.specs.Bindings.{Bindings}
use Rattle.au_matching.specs.Substituted.{all_substituted, EachNameOfAll, substituted}
use Rattle.au_type_texts.specs.declared.types.Closed.{Closed}
use Rattle.au_type_texts.specs.Closing.{all_closed, argument_closed, closed, in_front}
use Rattle.au_type_texts.specs.Same.{same}
use Rattle.au_type_texts.specs.Types.{ClosedType, ClosedTypes, named, no_types, reads, types, writes}
use Rattle.au_type_texts.specs.Views.{closed_meaning, closed_meanings}
use Rattle.au_type_texts.proofs.SameLemmas.{same_is, same_self}
use Rattle.au_type_texts.specs.declared.given_types.GivenType.{GivenType}
use Rattle.au_type_texts.specs.GivenViews.{given_said}
use Rattle.au_type_texts.specs.Given.{Closes, Given, all_closed_under, before_under, closed_under, given_for}
use Rattle.au_type_texts.specs.Given.{same_given}

-- ---- lists of what is given

pub given_is : (given others : Given) → same_given given others ≡ true → given ≡ others
given_is [] [] e = refl
given_is (a ∷ given) (b ∷ others) e =
    let rest = and_parts (bytes_eq a.0 b.0 && same a.1 b.1) (same_given given others) e in
    let both = and_parts (bytes_eq a.0 b.0) (same a.1 b.1) rest.0 in
    ap (λ name. (name, a.1) ∷ given) ((bytes_eq-Decides a.0 b.0).0 both.0)
    ∙ ap (λ t. (b.0, t) ∷ given) (same_is a.1 b.1 both.1)
    ∙ ap (λ list. b ∷ list) (given_is given others rest.1)
given_is given others e = absurd cc

pub given_self : (given : Given) → same_given given given ≡ true
given_self [] = refl
given_self (a ∷ given) =
    and_from _ _ (and_from _ _ ((bytes_eq-Decides a.0 a.0).1 refl) (same_self a.1)) (given_self given)

-- lists of two lengths don't give the same
same_lengths : (xs ys : List GivenType) → same_given (given_said xs) (given_said ys) ≡ true
    → length xs ≡ length ys
same_lengths [] [] e = refl
same_lengths [] (y ∷ ys) e = absurd cc
same_lengths (x ∷ xs) [] e = absurd cc
same_lengths (x ∷ xs) (y ∷ ys) e =
    let here = bytes_eq x.name y.name && same (closed_meaning x.of) (closed_meaning y.of) in
    let rest = and_parts here (same_given (given_said xs) (given_said ys)) e in
    ap suc (same_lengths xs ys rest.1)

pub given_unequal : (xs ys : List GivenType) → (length xs ≡ length ys → ⊥)
    → same_given (given_said xs) (given_said ys) ≡ false
given_unequal xs ys differ = by (same_given (given_said xs) (given_said ys)) refl
  where
    by : (b : Bool) → same_given (given_said xs) (given_said ys) ≡ b → b ≡ false
    by true e = absurd (differ (same_lengths xs ys e))
    by false e = refl

-- ---- arguments, with one more behind them

abbrev snoc_arguments : Arguments → Argument → Arguments
snoc_arguments no_arguments one = arguments one no_arguments
snoc_arguments (arguments first rest) one = arguments first (snoc_arguments rest one)

abbrev snoc_types : ClosedTypes → ClosedType → ClosedTypes
snoc_types no_types one = types one no_types
snoc_types (types first rest) one = types first (snoc_types rest one)

arguments_push : (xs : List Arg) (x : Arg)
    → argument_all (xs ++ x ∷ []) ≡ snoc_arguments (argument_all xs) (argument x)
arguments_push [] x = refl
arguments_push (y ∷ ys) x = ap (arguments (argument y)) (arguments_push ys x)

arguments_more : (xs : List Arg) (i : ℕ) (d : Arg) → i < length xs
    → argument_all (take (i + 1) xs) ≡ snoc_arguments (argument_all (take i xs)) (argument (get_or xs i d))
arguments_more xs i d h = ap argument_all (take_more xs i d h) ∙ arguments_push (take i xs) (get_or xs i d)

meanings_push : (xs : List Closed) (x : Closed)
    → closed_meanings (xs ++ x ∷ []) ≡ snoc_types (closed_meanings xs) (closed_meaning x)
meanings_push [] x = refl
meanings_push (y ∷ ys) x = ap (types (closed_meaning y)) (meanings_push ys x)

module _ (given : Given) where
  pub type_behind : (args : Arguments) (t : Meaning)
      → all_closed_under given (snoc_arguments args (of_type t))
      ≡ snoc_types (all_closed_under given args) (closed_under given t)
  type_behind no_arguments t = refl
  type_behind (arguments (of_type one) rest) t = ap (types (closed_under given one)) (type_behind rest t)
  type_behind (arguments (in_region region) rest) t = type_behind rest t

  pub region_behind : (args : Arguments) (region : Region)
      → all_closed_under given (snoc_arguments args (in_region region)) ≡ all_closed_under given args
  region_behind no_arguments region = refl
  region_behind (arguments (of_type one) rest) region =
      ap (types (closed_under given one)) (region_behind rest region)
  region_behind (arguments (in_region other) rest) region = region_behind rest region

  -- a loop over arguments at a type, and at a region
  pub type_more : (made pushed : List Closed) (new : Closed) (xs : List Arg) (i : ℕ) (x : Arg) (t : Meaning)
      → closed_meanings made ≡ all_closed_under given (argument_all (take i xs))
      → i < length xs
      → x ≡ get_or xs i x
      → argument x ≡ of_type t
      → closed_meaning new ≡ closed_under given t
      → pushed ≡ made ++ new ∷ []
      → closed_meanings pushed ≡ all_closed_under given (argument_all (take (i + 1) xs))
  type_more made pushed new xs i x t so_far inside is what same grows =
      let before = argument_all (take i xs) in
      ap closed_meanings grows
      ∙ meanings_push made new
      ∙ ap (λ list. snoc_types list (closed_meaning new)) so_far
      ∙ ap (snoc_types (all_closed_under given before)) same
      ∙ sym (type_behind before t)
      ∙ ap (λ one. all_closed_under given (snoc_arguments before one)) (sym what ∙ ap argument is)
      ∙ ap (all_closed_under given) (sym (arguments_more xs i x inside))

  pub region_more : (made : List Closed) (xs : List Arg) (i : ℕ) (x : Arg) (region : Region)
      → closed_meanings made ≡ all_closed_under given (argument_all (take i xs))
      → i < length xs
      → x ≡ get_or xs i x
      → argument x ≡ in_region region
      → closed_meanings made ≡ all_closed_under given (argument_all (take (i + 1) xs))
  region_more made xs i x region so_far inside is what =
      let before = argument_all (take i xs) in
      so_far
      ∙ sym (region_behind before region)
      ∙ ap (λ one. all_closed_under given (snoc_arguments before one)) (sym what ∙ ap argument is)
      ∙ ap (all_closed_under given) (sym (arguments_more xs i x inside))

-- ---- closing what is substituted

module _ (given : Given) (s : Bindings) where
  mutual
    pub closing_substituted : (t : Meaning) → Closes given s t
        → closed (substituted s t) ≡ Some (closed_under given t)
    closing_substituted whole.unit each = refl
    closing_substituted whole.truth each = refl
    closing_substituted (whole.integer kind) each = refl
    closing_substituted whole.text each = refl
    closing_substituted (whole.parameter name) each = each
    closing_substituted (whole.named at args) each =
        ap (option_map (named at)) (all_substituted_close args each)
    closing_substituted (whole.reads to region) each = ap (option_map reads) (closing_substituted to each.0)
    closing_substituted (whole.writes to region) each = ap (option_map writes) (closing_substituted to each.0)

    all_substituted_close : (args : Arguments)
        → EachNameOfAll (λ name. closed (substituted s (whole.parameter name)) ≡ Some (given_for given name))
        (λ name. Unit {0}) args
        → all_closed (all_substituted s args) ≡ Some (all_closed_under given args)
    all_substituted_close no_arguments each = refl
    all_substituted_close (arguments (of_type t) rest) each =
        ap (λ o. in_front o (all_closed (all_substituted s rest))) (closing_substituted t each.0)
        ∙ ap (in_front (Some (closed_under given t))) (all_substituted_close rest each.1)
    all_substituted_close (arguments (in_region region) rest) each = all_substituted_close rest each.1
