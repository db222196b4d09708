-- The universes of types, case by case. The definition is opaque; these equations stand for it, and
-- `steps` names them.
use Rattle.std.proofs.Common.{◌≡◌, ℕ, ◌+◌, ◌<◌, List, [], ◌∷◌, ◌++◌, length, take, get_or, Bool, true, false}
use Rattle.std.proofs.Common.{refl, sym, ap, ◌∙◌, append_assoc}
use Rattle.std.specs.Prelude.{if◌then◌else◌, unwrap_or}
use Rattle.std.specs.List.{list_all, list_any}
use Rattle.std.proofs.lemmas.List.{append-nil, take_more}
use Rattle.au_base.specs.declared.kinds.IntKind.{IntKind}
use Rattle.au_types.specs.declared.headings.Head.{Head}
use Rattle.au_types.specs.declared.parameters.Parameter.{Parameter}
use Rattle.au_types.specs.declared.types.Arg.{Arg}
use Rattle.au_types.specs.declared.types.DeclAt.{DeclAt}
use Rattle.au_types.specs.declared.types.Region.{Region}
use Rattle.au_types.specs.Rows.{head_of}
use Rattle.au_types.specs.Types.{Meaning, Arguments, unit, truth, integer, text, parameter, named, reads}
use Rattle.au_types.specs.Types.{writes, of_type, in_region, no_arguments}
use Rattle.au_types.specs.Universes.{universe_in}
use Rattle.au_types.specs.Views.{argument, argument_all}
use Rattle.au_matching.specs.declared.universes.TypeUniverse.{TypeUniverse}
use Rattle.au_matching.specs.declared.universes.TypeUniverse.TheVariants.{Free, Linear, AnyUniverse}
use Rattle.au_matching.specs.Joined.{joined}
use Rattle.au_matching.specs.Universes.{is_free, is_linear, judged, of_parameter, of_row, universe_of}
use Rattle.au_matching.specs.Universes.{argument_universe, argument_universes}

-- ---- what universes of arguments come to

pub joined_end : (one : TypeUniverse) → joined one Free ≡ one
joined_end Free = refl
joined_end Linear = refl
joined_end AnyUniverse = refl

pub joined_joined : (one other last : TypeUniverse) → joined one (joined other last) ≡ joined (joined one other) last
joined_joined Free other last = refl
joined_joined Linear other last = refl
joined_joined AnyUniverse Free last = refl
joined_joined AnyUniverse Linear last = refl
joined_joined AnyUniverse AnyUniverse Free = refl
joined_joined AnyUniverse AnyUniverse Linear = refl
joined_joined AnyUniverse AnyUniverse AnyUniverse = refl

any_first : (linear free : Bool) → (if linear then Linear else AnyUniverse) ≡ joined AnyUniverse
    (if linear then Linear else (if free then Free else AnyUniverse))
any_first true free = refl
any_first false true = refl
any_first false false = refl

-- one more in front
pub judged_first : (one : TypeUniverse) (rest : List TypeUniverse) → judged (one ∷ rest) ≡ joined one (judged rest)
unfolding judged
judged_first Free rest = refl
judged_first Linear rest = refl
judged_first AnyUniverse rest = any_first (list_any is_linear rest) (list_all is_free rest)

pub judged_empty : judged [] ≡ Free
unfolding judged
judged_empty = refl

pub judged_one : (one : TypeUniverse) → judged (one ∷ []) ≡ one
judged_one one = judged_first one [] ∙ ap (joined one) judged_empty ∙ joined_end one

-- one list behind another
pub judged_both : (before rest : List TypeUniverse) → judged (before ++ rest) ≡ joined (judged before) (judged rest)
judged_both [] rest = ap (λ one. joined one (judged rest)) (sym judged_empty)
judged_both (one ∷ before) rest =
    judged_first one (before ++ rest)
    ∙ ap (joined one) (judged_both before rest)
    ∙ joined_joined one (judged before) (judged rest)
    ∙ ap (λ both. joined both (judged rest)) (sym (judged_first one before))

-- ---- universes of types

module _ (rows : List (DeclAt × Head)) (params : List Parameter) where
  pub unit_universe : universe_of rows params unit ≡ Free
  unfolding universe_of
  unit_universe = refl

  pub truth_universe : universe_of rows params truth ≡ Free
  unfolding universe_of
  truth_universe = refl

  pub integer_universe : (kind : IntKind) → universe_of rows params (integer kind) ≡ Free
  unfolding universe_of
  integer_universe kind = refl

  pub text_universe : universe_of rows params text ≡ Free
  unfolding universe_of
  text_universe = refl

  pub parameter_universe : (name : List ℕ) → universe_of rows params (parameter name)
      ≡ unwrap_or (of_parameter (universe_in params name)) AnyUniverse
  unfolding universe_of
  parameter_universe name = refl

  pub named_universe : (at : DeclAt) (args : Arguments) → universe_of rows params (named at args)
      ≡ of_row (head_of rows at) (judged (argument_universes rows params args))
  unfolding universe_of
  named_universe at args = refl

  pub reads_universe : (t : Meaning) (region : Region) → universe_of rows params (reads t region) ≡ Free
  unfolding universe_of
  reads_universe t region = refl

  pub writes_universe : (t : Meaning) (region : Region) → universe_of rows params (writes t region) ≡ Linear
  unfolding universe_of
  writes_universe t region = refl

  pub type_comes : (t : Meaning) → judged (argument_universe rows params (of_type t)) ≡ universe_of rows params t
  unfolding argument_universe
  type_comes t = judged_one (universe_of rows params t)

  pub region_comes : (region : Region) → judged (argument_universe rows params (in_region region)) ≡ Free
  unfolding argument_universe
  region_comes region = judged_empty

  -- ---- arguments in order

  pub none_come : judged (argument_universes rows params no_arguments) ≡ Free
  unfolding argument_universes
  none_come = judged_empty

  universes_push : (xs : List Arg) (x : Arg) → argument_universes rows params (argument_all (xs ++ x ∷ []))
      ≡ argument_universes rows params (argument_all xs) ++ argument_universe rows params (argument x)
  unfolding argument_universes
  universes_push [] x = append-nil (argument_universe rows params (argument x))
  universes_push (y ∷ ys) x =
      ap (λ rest. argument_universe rows params (argument y) ++ rest) (universes_push ys x)
      ∙ sym (append_assoc (argument_universe rows params (argument y))
      (argument_universes rows params (argument_all ys)) (argument_universe rows params (argument x)))

  pub more_come : (xs : List Arg) (i : ℕ) (d : Arg) → i < length xs →
      judged (argument_universes rows params (argument_all (take (i + 1) xs)))
      ≡ joined (judged (argument_universes rows params (argument_all (take i xs))))
      (judged (argument_universe rows params (argument (get_or xs i d))))
  more_come xs i d inside =
      ap (λ ys. judged (argument_universes rows params (argument_all ys))) (take_more xs i d inside)
      ∙ ap judged (universes_push (take i xs) (get_or xs i d))
      ∙ judged_both (argument_universes rows params (argument_all (take i xs)))
      (argument_universe rows params (argument (get_or xs i d)))

pub ruleset steps = (
  unit_universe,
  truth_universe,
  integer_universe,
  text_universe,
  parameter_universe,
  named_universe,
  reads_universe,
  writes_universe,
  type_comes,
  region_comes,
)

pub ruleset judged_steps = (none_come, more_come)
