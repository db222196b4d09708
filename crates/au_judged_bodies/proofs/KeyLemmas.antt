-- The tokens of a call: those that are active and stand for a region of what is called, or are in a type that
-- stands for a type parameter of it.
use Rattle.std.proofs.Common.{◌≡◌, inl, inr, ℕ, Bool, true, false, true≢false, cond, List, [], ◌∷◌, Option, None, Some}
use Rattle.std.proofs.Common.{refl, sym, ap, ◌∙◌, subst}
use Rattle.std.specs.Prelude.{if◌then◌else◌, is_some}
use Rattle.std.specs.Str.{bytes_eq}
use Rattle.std.proofs.lemmas.Option.{none-some}
use Rattle.std.proofs.lemmas.Slice.Eq.{bytes_eq-Decides}
use Rattle.au_syntax.specs.declared.declarations.Universe.TheVariants as universes
use Rattle.au_types.specs.declared.parameters.Parameter.{Parameter}
use Rattle.au_types.specs.declared.types.Region.{Region}
use Rattle.au_types.specs.declared.types.Region.TheVariants.{Named}
use Rattle.au_types.specs.Types.{Meaning, Argument, Arguments, unit, truth, integer, text, parameter, named}
use Rattle.au_types.specs.Types.{reads, writes, of_type, in_region, no_arguments, arguments}
use Rattle.au_types.specs.Universes.{universe_in}
use Rattle.au_matching.specs.Bindings.{Bindings, value_of}
use Rattle.au_matching.specs.Substituted.{region_for, type_for}
use Rattle.au_matching.specs.Universes.{of_parameter}
use Rattle.au_running_types.specs.Running.{token}
use Rattle.au_running_lives.specs.Known.{AreActive, InScope}
use Rattle.au_written_types.specs.Written.{IsTypeName}
use Rattle.au_judged_bodies.specs.Callees.{RegionsStand}
use Rattle.au_judged_bodies.specs.Frames.{AreUsable, IsUsable, TypesAreUsable}

-- the token of a region, if it has one
abbrev pub token_of : Region → Option ℕ
token_of (Named (z ∷ [])) = Some z
token_of other = None

-- it goes before others where it is active
abbrev pub kept : (ℕ → Bool) → Option ℕ → List ℕ → List ℕ
kept active None rest = rest
kept active (Some z) rest = if active z then z ∷ rest else rest

-- so do those of a type
abbrev mutual
  pub type_tokens : (ℕ → Bool) → Meaning → List ℕ → List ℕ
  type_tokens active unit rest = rest
  type_tokens active truth rest = rest
  type_tokens active (integer kind) rest = rest
  type_tokens active text rest = rest
  type_tokens active (parameter name) rest = rest
  type_tokens active (named of args) rest = all_tokens active args rest
  type_tokens active (reads to region) rest = type_tokens active to (kept active (token_of region) rest)
  type_tokens active (writes to region) rest = type_tokens active to (kept active (token_of region) rest)

  pub argument_tokens : (ℕ → Bool) → Argument → List ℕ → List ℕ
  argument_tokens active (of_type t) rest = type_tokens active t rest
  argument_tokens active (in_region region) rest = kept active (token_of region) rest

  pub all_tokens : (ℕ → Bool) → Arguments → List ℕ → List ℕ
  all_tokens active no_arguments rest = rest
  all_tokens active (arguments one more) rest = argument_tokens active one (all_tokens active more rest)

-- those of what stands for a name
abbrev pub value_tokens : (ℕ → Bool) → Bindings → List ℕ → List ℕ → List ℕ
value_tokens active s name rest =
    kept active (token_of (region_for (value_of name s) name))
    (type_tokens active (type_for (value_of name s) name) rest)

abbrev pub tokens_in : (ℕ → Bool) → Bindings → List Parameter → List ℕ
tokens_in active s [] = []
tokens_in active s (p ∷ ps) = value_tokens active s p.name (tokens_in active s ps)

module _ (active : ℕ → Bool) (s : Bindings) where
  kept_active : (o : Option ℕ) (rest : List ℕ) → AreActive active rest → AreActive active (kept active o rest)
  kept_active None rest are = are
  kept_active (Some z) rest are = by (active z) refl
    where
      by : (b : Bool) → active z ≡ b → AreActive active (if b then z ∷ rest else rest)
      by true is = (is, are)
      by false is = are

  mutual
    type_active : (t : Meaning) (rest : List ℕ) → AreActive active rest → AreActive active (type_tokens active t rest)
    type_active unit rest are = are
    type_active truth rest are = are
    type_active (integer kind) rest are = are
    type_active text rest are = are
    type_active (parameter name) rest are = are
    type_active (named of args) rest are = all_active args rest are
    type_active (reads to region) rest are =
        type_active to (kept active (token_of region) rest) (kept_active (token_of region) rest are)
    type_active (writes to region) rest are =
        type_active to (kept active (token_of region) rest) (kept_active (token_of region) rest are)

    all_active : (args : Arguments) (rest : List ℕ) → AreActive active rest
        → AreActive active (all_tokens active args rest)
    all_active no_arguments rest are = are
    all_active (arguments (of_type t) more) rest are =
        type_active t (all_tokens active more rest) (all_active more rest are)
    all_active (arguments (in_region region) more) rest are =
        kept_active (token_of region) (all_tokens active more rest) (all_active more rest are)

  -- they are active
  pub tokens_active : (ps : List Parameter) → AreActive active (tokens_in active s ps)
  tokens_active [] = tt
  tokens_active (p ∷ ps) =
      kept_active (token_of (region_for (value_of p.name s) p.name))
      (type_tokens active (type_for (value_of p.name s) p.name) (tokens_in active s ps))
      (type_active (type_for (value_of p.name s) p.name) (tokens_in active s ps) (tokens_active ps))

  module _ (other : ℕ → Bool) where
    first_kept : (z : ℕ) (rest : List ℕ) → active z ≡ true → AreActive other (kept active (Some z) rest)
        → other z ≡ true
    first_kept z rest is are = (subst (λ b. AreActive other (if b then z ∷ rest else rest)) is are).0

    rest_kept : (o : Option ℕ) (rest : List ℕ) → AreActive other (kept active o rest) → AreActive other rest
    rest_kept None rest are = are
    rest_kept (Some z) rest are = by (active z) are
      where
        by : (b : Bool) → AreActive other (if b then z ∷ rest else rest) → AreActive other rest
        by true are = are.1
        by false are = are

    region_kept : (r : Region) (rest : List ℕ) → InScope active r → AreActive other (kept active (token_of r) rest)
        → InScope other r
    region_kept r rest (inl is) are = inl is
    region_kept r rest (inr (z, e, is)) are =
        inr (z, e, first_kept z rest is (subst (λ o. AreActive other (kept active o rest)) (ap token_of e) are))

    mutual
      -- the regions in a type that could be used may be used, and others are active
      type_kept : (t : Meaning) (rest : List ℕ) → IsUsable active t → AreActive other (type_tokens active t rest)
          → IsUsable other t × AreActive other rest
      type_kept unit rest usable are = (tt, are)
      type_kept truth rest usable are = (tt, are)
      type_kept (integer kind) rest usable are = (tt, are)
      type_kept text rest usable are = (tt, are)
      type_kept (parameter name) rest usable are = (tt, are)
      type_kept (named of args) rest usable are = all_kept args rest usable are
      type_kept (reads to region) rest usable are =
          let its = type_kept to (kept active (token_of region) rest) usable.0 are in
          ((its.0, region_kept region rest usable.1 its.1), rest_kept (token_of region) rest its.1)
      type_kept (writes to region) rest usable are =
          let its = type_kept to (kept active (token_of region) rest) usable.0 are in
          ((its.0, region_kept region rest usable.1 its.1), rest_kept (token_of region) rest its.1)

      all_kept : (args : Arguments) (rest : List ℕ) → AreUsable active args
          → AreActive other (all_tokens active args rest) → AreUsable other args × AreActive other rest
      all_kept no_arguments rest usable are = (tt, are)
      all_kept (arguments (of_type t) more) rest usable are =
          let its = type_kept t (all_tokens active more rest) usable.0 are in
          let others = all_kept more rest usable.1 its.1 in
          ((its.0, others.0), others.1)
      all_kept (arguments (in_region region) more) rest usable are =
          let its = rest_kept (token_of region) (all_tokens active more rest) are in
          let others = all_kept more rest usable.1 its in
          ((region_kept region (all_tokens active more rest) usable.0 are, others.0), others.1)

    mutual
      -- what stands behind the tokens of a type is active where all are
      type_rest : (t : Meaning) (rest : List ℕ) → AreActive other (type_tokens active t rest) → AreActive other rest
      type_rest unit rest are = are
      type_rest truth rest are = are
      type_rest (integer kind) rest are = are
      type_rest text rest are = are
      type_rest (parameter name) rest are = are
      type_rest (named of args) rest are = all_rest args rest are
      type_rest (reads to region) rest are =
          rest_kept (token_of region) rest (type_rest to (kept active (token_of region) rest) are)
      type_rest (writes to region) rest are =
          rest_kept (token_of region) rest (type_rest to (kept active (token_of region) rest) are)

      all_rest : (args : Arguments) (rest : List ℕ) → AreActive other (all_tokens active args rest)
          → AreActive other rest
      all_rest no_arguments rest are = are
      all_rest (arguments (of_type t) more) rest are =
          all_rest more rest (type_rest t (all_tokens active more rest) are)
      all_rest (arguments (in_region region) more) rest are =
          all_rest more rest (rest_kept (token_of region) (all_tokens active more rest) are)

    value_rest : (name : List ℕ) (rest : List ℕ) → AreActive other (value_tokens active s name rest)
        → AreActive other rest
    value_rest name rest are =
        type_rest (type_for (value_of name s) name) rest
        (rest_kept (token_of (region_for (value_of name s) name))
        (type_tokens active (type_for (value_of name s) name) rest)
        are)

    token_there : (ps : List Parameter) (name : List ℕ) (z : ℕ) → universe_in ps name ≡ Some universes.Region
        → region_for (value_of name s) name ≡ token z → active z ≡ true → AreActive other (tokens_in active s ps)
        → other z ≡ true
    token_there [] name z there e is are = absurd (none-some universes.Region there)
    token_there (p ∷ ps) name z there e is are =
        by (bytes_eq p.name name) refl there
        (λ later. token_there ps name z later e is
        (value_rest p.name (tokens_in active s ps) are))
      where
        by : (b : Bool) → bytes_eq p.name name ≡ b
            → cond b (Some p.universe) (universe_in ps name) ≡ Some universes.Region
            → (universe_in ps name ≡ Some universes.Region → other z ≡ true) → other z ≡ true
        by true found there later =
            let same : p.name ≡ name = (bytes_eq-Decides p.name name).0 found in
            first_kept z (type_tokens active (type_for (value_of p.name s) p.name) (tokens_in active s ps)) is
            (subst (λ o. AreActive other (kept active o (type_tokens active (type_for (value_of p.name s) p.name)
            (tokens_in active s ps)))) (ap (λ n. token_of (region_for (value_of n s) n)) same ∙ ap token_of e) are)
        by false found there later = later there

    -- while they are active, regions may be used that could be
    pub regions_kept : (ps : List Parameter) → RegionsStand active ps s → AreActive other (tokens_in active s ps)
        → RegionsStand other ps s
    regions_kept ps stand are name there = by (stand name there)
      where
        by : InScope active (region_for (value_of name s) name) → InScope other (region_for (value_of name s) name)
        by (inl is) = inl is
        by (inr (z, e, is)) = inr (z, e, token_there ps name z there e is are)

    -- and so may the regions in types
    type_there : (ps : List Parameter) (name : List ℕ) → IsTypeName ps name
        → IsUsable active (type_for (value_of name s) name) → AreActive other (tokens_in active s ps)
        → IsUsable other (type_for (value_of name s) name)
    type_there [] name is usable are = absurd (true≢false (sym is))
    type_there (p ∷ ps) name is usable are =
        by (bytes_eq p.name name) refl is
        (λ later. type_there ps name later usable (value_rest p.name (tokens_in active s ps) are))
      where
        by : (b : Bool) → bytes_eq p.name name ≡ b
            → is_some (of_parameter (cond b (Some p.universe) (universe_in ps name))) ≡ true
            → (IsTypeName ps name → IsUsable other (type_for (value_of name s) name))
            → IsUsable other (type_for (value_of name s) name)
        by true found is later =
            let same : p.name ≡ name = (bytes_eq-Decides p.name name).0 found in
            (type_kept (type_for (value_of name s) name) (tokens_in active s ps) usable
            (rest_kept (token_of (region_for (value_of name s) name))
            (type_tokens active (type_for (value_of name s) name) (tokens_in active s ps))
            (subst (λ n. AreActive other (value_tokens active s n (tokens_in active s ps))) same are))).0
        by false found is later = later is

    pub types_kept : (ps : List Parameter) → TypesAreUsable active ps s → AreActive other (tokens_in active s ps)
        → TypesAreUsable other ps s
    types_kept ps within are name is = type_there ps name is (within name is) are
