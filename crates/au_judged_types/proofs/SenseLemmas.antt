-- What names mean is well formed: types that take no arguments are, and a declared type has the type
-- parameters of its row.
use Rattle.std.proofs.Common.{◌≡◌, List, [], ◌∷◌, Bool, true, false, Option, None, Some, refl, ap}
use Rattle.std.specs.Prelude.{if◌then◌else◌, cond, is_some}
use Rattle.std.specs.List.{list_any}
use Rattle.std.specs.Map.{lookup}
use Rattle.std.specs.Option.{option_map, option_or}
use Rattle.std.specs.Str.{bytes_eq}
use Rattle.au_syntax.specs.declared.declarations.Universe.{Universe}
use Rattle.au_syntax.specs.declared.declarations.Universe.TheVariants as universes
use Rattle.au_syntax.specs.Plain.{Bytes}
use Rattle.au_types.specs.Tables.{find}
use Rattle.au_types.specs.declared.headings.Head.{Head}
use Rattle.au_types.specs.declared.parameters.Parameter.{Parameter}
use Rattle.au_types.specs.declared.types.DeclAt.{DeclAt}
use Rattle.au_types.specs.declared.types.Region.{Region}
use Rattle.au_types.specs.declared.types.Region.TheVariants as regions
use Rattle.au_types.specs.Rows.{head_of}
use Rattle.au_types.specs.Types.{Arguments}
use Rattle.au_types.specs.Universes.{universe_in}
use Rattle.au_matching.specs.Forming.{all_fit, fit_row, fits, is_formed}
use Rattle.au_matching.specs.Universes.{of_parameter}
use Rattle.au_types.specs.Senses.{Sense, a_type, a_region, declared, built_in, declared_sense, open_region}
use Rattle.au_types.specs.Senses.{outer_sense, parameter_sense, sense_of}

module _ (heads : List (DeclAt × Head)) (params : List Parameter) where
  -- what is good of a sense
  abbrev pub Good : Option Sense → Type 0
  Good (Some (a_type t)) = is_formed (fits heads params) heads params t ≡ true
  Good (Some (declared at expected)) = (args : Arguments) → fit_row (fits heads params) (head_of heads at)
      args ≡ all_fit (fits heads params) expected args
  Good other = Unit {0}

  abbrev AllGood : List (Bytes × Sense) → Type 0
  AllGood [] = Unit {0}
  AllGood (one ∷ rest) = Good (Some one.1) × AllGood rest

  good_cond : (b : Bool) (one : Sense) (rest : Option Sense) → Good (Some one) → Good rest →
      Good (cond b (Some one) rest)
  good_cond true one rest first others = first
  good_cond false one rest first others = others

  good_lookup : (test : Bytes → Bool) (all : List (Bytes × Sense)) → AllGood all → Good (lookup test all)
  good_lookup test [] good = tt
  good_lookup test (one ∷ rest) good = good_cond (test one.0) one.1 (lookup test rest) good.0
      (good_lookup test rest good.1)

  good_or : (one other : Option Sense) → Good one → Good other → Good (option_or one other)
  good_or None other first second = second
  good_or (Some sense) other first second = first

  good_open : (b : Bool) (region : Region) → Good (if b then Some (a_region region) else None)
  good_open true region = tt
  good_open false region = tt

  good_built_in : AllGood built_in
  unfolding is_formed
  good_built_in = (refl, (refl, (refl, (refl, (refl, (refl, (refl, (refl, (refl, (refl, (refl, (tt, (tt, tt)))))))))))))

  good_parameter : (name : Bytes) (universe : Option Universe) → universe_in params name ≡ universe →
      Good (option_map (parameter_sense name) universe)
  unfolding is_formed
  good_parameter name None is = tt
  good_parameter name (Some universes.Free) is = ap (λ u. is_some (of_parameter u)) is
  good_parameter name (Some universes.Linear) is = ap (λ u. is_some (of_parameter u)) is
  good_parameter name (Some universes.AnyType) is = ap (λ u. is_some (of_parameter u)) is
  good_parameter name (Some universes.Region) is = tt

  good_declared : (at : DeclAt) (row : Option Head) → head_of heads at ≡ row → Good (Some (declared_sense heads at))
  good_declared at None is = rw is tt
  good_declared at (Some head) is = rw is (λ args. ap (λ row. fit_row (fits heads params) row args) is)

  good_visible : (found : Option DeclAt) → Good (option_map (declared_sense heads) found)
  good_visible None = tt
  good_visible (Some at) = good_declared at (head_of heads at) refl

  pub sense_good : (opened : List Bytes) (visible : List (Bytes × DeclAt)) (name : Bytes) →
      Good (sense_of opened params visible heads name)
  sense_good opened visible name =
      let outer : Good (outer_sense visible heads name) =
      good_or (find name built_in) (option_map (declared_sense heads) (find name visible))
      (good_lookup (bytes_eq name) built_in good_built_in) (good_visible (find name visible)) in
      let inner : Good (option_or (option_map (parameter_sense name) (universe_in params name))
      (outer_sense visible heads name)) =
      good_or (option_map (parameter_sense name) (universe_in params name)) (outer_sense visible heads name)
      (good_parameter name (universe_in params name) refl) outer in
      good_or (open_region opened name)
      (option_or (option_map (parameter_sense name) (universe_in params name))
      (outer_sense visible heads name)) (good_open (list_any (bytes_eq name) opened) (regions.Named name))
      inner
