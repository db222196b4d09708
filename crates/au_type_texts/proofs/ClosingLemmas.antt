-- What a loop over arguments has closed, and what it has still to close.
use Rattle.std.proofs.Common.{◌≡◌, ℕ, suc, ◌+◌, ◌<◌, ◌≤◌, List, [], ◌∷◌, ◌++◌, length, drop, get_or, Option}
use Rattle.std.proofs.Common.{None, Some, refl, ap, ◌∙◌, sym, arith}
use Rattle.std.proofs.Math.Seq.{drop-cons}
use Rattle.std.proofs.lemmas.List.{drop_all}
use Rattle.au_types.specs.declared.types.Arg.{Arg}
use Rattle.au_types.specs.declared.types.Region.{Region}
use Rattle.au_types.specs.Types.{Meaning, of_type, in_region}
use Rattle.au_types.specs.Views.{argument, argument_all}
use Rattle.au_type_texts.specs.declared.types.Closed.{Closed}
use Rattle.au_type_texts.specs.Closing.{all_closed, argument_closed, closed, in_front}
use Rattle.au_type_texts.specs.Types.{ClosedTypes, no_types, types}
use Rattle.au_type_texts.specs.Views.{closed_meaning, closed_meanings}

-- closed types in front of others
pub joined : ClosedTypes → ClosedTypes → ClosedTypes
joined no_types rest = rest
joined (types one more) rest = types one (joined more rest)

-- the same where there are others
pub before : ClosedTypes → Option ClosedTypes → Option ClosedTypes
before so_far None = None
before so_far (Some rest) = Some (joined so_far rest)

-- at the start
pub before_start : (rest : Option ClosedTypes) → rest ≡ before no_types rest
unfolding joined before
before_start None = refl
before_start (Some rest) = refl

joined_none : (so_far : ClosedTypes) → joined so_far no_types ≡ so_far
unfolding joined
joined_none no_types = refl
joined_none (types one more) = ap (types one) (joined_none more)

joined_more : (done : List Closed) (one : Closed) (rest : ClosedTypes) →
    joined (closed_meanings done) (types (closed_meaning one) rest)
    ≡ joined (closed_meanings (done ++ one ∷ [])) rest
unfolding joined
joined_more [] one rest = refl
joined_more (first ∷ done) one rest = ap (types (closed_meaning first)) (joined_more done one rest)

before_more : (done : List Closed) (one : Closed) (rest : Option ClosedTypes) →
    before (closed_meanings done) (in_front (Some (closed_meaning one)) rest)
    ≡ before (closed_meanings (done ++ one ∷ [])) rest
unfolding before
before_more done one None = refl
before_more done one (Some rest) = ap Some (joined_more done one rest)

-- at the end
pub before_end : (so_far : ClosedTypes) (xs : List Arg) (i : ℕ) → length xs ≤ i →
    before so_far (all_closed (argument_all (drop i xs))) ≡ Some so_far
unfolding before
before_end so_far xs i past = ap (λ r. before so_far (all_closed (argument_all r))) (drop_all i xs past)
    ∙ ap Some (joined_none so_far)

-- one argument and those behind it
pub argument_left : (xs : List Arg) (i : ℕ) (x : Arg) → i < length xs → x ≡ get_or xs i x →
    all_closed (argument_all (drop i xs)) ≡ argument_closed (argument x)
    (all_closed (argument_all (drop (i + 1) xs)))
argument_left xs i x within is =
    ap (λ r. all_closed (argument_all r)) (drop-cons xs i x within)
    ∙ ap (λ y. argument_closed (argument y) (all_closed (argument_all (drop (suc i) xs)))) (sym is)
    ∙ ap (λ k. argument_closed (argument x) (all_closed (argument_all (drop k xs))))
    (let e : suc i ≡ i + 1 = omega arith in e)

-- a region is left out
pub region_left : (xs : List Arg) (i : ℕ) (x : Arg) (region : Region) → i < length xs → x ≡ get_or xs i x →
    argument x ≡ in_region region → all_closed (argument_all (drop i xs))
    ≡ all_closed (argument_all (drop (i + 1) xs))
region_left xs i x region within is what = argument_left xs i x within is
    ∙ ap (λ one. argument_closed one (all_closed (argument_all (drop (i + 1) xs)))) what

-- a type that is closed
pub type_left : (done : List Closed) (one : Closed) (xs : List Arg) (i : ℕ) (x : Arg) (t : Meaning) →
    i < length xs → x ≡ get_or xs i x → argument x ≡ of_type t → Some (closed_meaning one) ≡ closed t
    → before (closed_meanings done) (all_closed (argument_all (drop i xs)))
    ≡ before (closed_meanings (done ++ one ∷ [])) (all_closed (argument_all (drop (i + 1) xs)))
type_left done one xs i x t within is what close =
    ap (before (closed_meanings done))
    (argument_left xs i x within is
    ∙ ap (λ a. argument_closed a (all_closed (argument_all (drop (i + 1) xs)))) what)
    ∙ ap (λ o. before (closed_meanings done) (in_front o (all_closed (argument_all (drop (i + 1) xs))))) (sym close)
    ∙ before_more done one (all_closed (argument_all (drop (i + 1) xs)))

-- a type that isn't
pub none_left : (so_far : ClosedTypes) (xs : List Arg) (i : ℕ) (x : Arg) (t : Meaning) → i < length xs →
    x ≡ get_or xs i x → argument x ≡ of_type t → None ≡ closed t
    → before so_far (all_closed (argument_all (drop i xs))) ≡ None
unfolding before
none_left so_far xs i x t within is what close =
    ap (before so_far) (argument_left xs i x within is
    ∙ ap (λ a. argument_closed a (all_closed (argument_all (drop (i + 1) xs)))) what)
    ∙ ap (λ o. before so_far (in_front o (all_closed (argument_all (drop (i + 1) xs))))) (sym close)
