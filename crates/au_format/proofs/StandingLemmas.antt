-- What is known behind one token more, and how far its numbers go.
use Rattle.std.proofs.Common.{◌≡◌, ℕ, ◌+◌, ◌≤◌, Bool, true, false, cond, List, [], ◌∷◌, length, drop}
use Rattle.std.proofs.Common.{Option, Some, refl, inl, inr, arith}
use Rattle.std.proofs.lemmas.Bool.{cases_Bool, cond-true, cond-false}
use Rattle.au_base.specs.declared.tokens.Keyword.TheVariants.{KwModule, KwBody, KwIs, KwEnd, KwImport, KwAs}
use Rattle.au_base.specs.declared.tokens.Keyword.TheVariants.{KwPragma, KwConstant, KwType, KwRecord, KwUnion}
use Rattle.au_base.specs.declared.tokens.Keyword.TheVariants.{KwCase, KwWhen, KwOf, KwDo, KwFunction}
use Rattle.au_base.specs.declared.tokens.Keyword.TheVariants.{KwGeneric, KwTypeclass, KwInstance, KwMethod}
use Rattle.au_base.specs.declared.tokens.Keyword.TheVariants.{KwLet, KwVar, KwIf, KwThen, KwElse, KwWhile}
use Rattle.au_base.specs.declared.tokens.Keyword.TheVariants.{KwFor, KwFrom, KwTo, KwBorrow, KwIn, KwReturn}
use Rattle.au_base.specs.declared.tokens.Keyword.TheVariants.{KwSkip, KwNil, KwTrue, KwFalse, KwAnd, KwOr}
use Rattle.au_base.specs.declared.tokens.Keyword.TheVariants.{KwNot, KwFree, KwLinear, KwAnyUniverse}
use Rattle.au_base.specs.declared.tokens.Keyword.TheVariants.{KwRegion}
use Rattle.au_format.specs.declared.kinds.Kind.{Kind}
use Rattle.au_format.specs.declared.kinds.Kind.TheVariants.{Word, Sign, Name, Number, Text}
use Rattle.au_format.specs.Kinds.{nearest}
use Rattle.au_format.specs.Marks.{choices, choices_behind, begins, levels, opens}
use Rattle.au_format.specs.Standings.{standing, step}

-- what is known behind one token more
pub step_is : (before : List Kind) (kind : Kind) (next : Option Kind) →
    standing (kind ∷ before) next ≡ step (standing before (Some kind)) kind next
step_is before kind next = refl

at_most_one : (b : Bool) → cond b 1 0 ≤ 1
at_most_one true = omega arith
at_most_one false = omega arith

-- no more levels are open than there are tokens
pub levels_few : (before : List Kind) (next : Option Kind) → levels before next ≤ length before
levels_few [] next = omega arith
levels_few (kind ∷ before) next =
    omega (
      arith,
      levels_few before (Some kind),
      at_most_one (opens (nearest (drop 1 before)) (choices before) kind next),
    )

as_many : (n : ℕ) → n ≤ n + 1
as_many n = omega arith

one_choice : (n : ℕ) (b : Bool) (kind : Kind) → choices_behind n b kind ≤ n + 1
one_choice n b (Word KwModule) = as_many n
one_choice n b (Word KwBody) = as_many n
one_choice n b (Word KwIs) = as_many n
one_choice n b (Word KwEnd) = as_many n
one_choice n b (Word KwImport) = as_many n
one_choice n b (Word KwAs) = as_many n
one_choice n b (Word KwPragma) = as_many n
one_choice n b (Word KwConstant) = as_many n
one_choice n b (Word KwType) = as_many n
one_choice n b (Word KwRecord) = as_many n
one_choice n b (Word KwUnion) = as_many n
one_choice n b (Word KwCase) = as_many n
one_choice n b (Word KwWhen) = as_many n
one_choice n b (Word KwOf) = as_many n
one_choice n b (Word KwDo) = as_many n
one_choice n b (Word KwFunction) = as_many n
one_choice n b (Word KwGeneric) = as_many n
one_choice n b (Word KwTypeclass) = as_many n
one_choice n b (Word KwInstance) = as_many n
one_choice n b (Word KwMethod) = as_many n
one_choice n b (Word KwLet) = as_many n
one_choice n b (Word KwVar) = as_many n
one_choice n b (Word KwIf) = elim (cases_Bool b) [
  | inl e ↦ omega (arith, cond-true b n (n + 1) e)
  | inr e ↦ omega (arith, cond-false b n (n + 1) e)
]
one_choice n b (Word KwThen) = as_many n
one_choice n b (Word KwElse) = omega arith
one_choice n b (Word KwWhile) = as_many n
one_choice n b (Word KwFor) = as_many n
one_choice n b (Word KwFrom) = as_many n
one_choice n b (Word KwTo) = as_many n
one_choice n b (Word KwBorrow) = as_many n
one_choice n b (Word KwIn) = as_many n
one_choice n b (Word KwReturn) = as_many n
one_choice n b (Word KwSkip) = as_many n
one_choice n b (Word KwNil) = as_many n
one_choice n b (Word KwTrue) = as_many n
one_choice n b (Word KwFalse) = as_many n
one_choice n b (Word KwAnd) = as_many n
one_choice n b (Word KwOr) = as_many n
one_choice n b (Word KwNot) = as_many n
one_choice n b (Word KwFree) = as_many n
one_choice n b (Word KwLinear) = as_many n
one_choice n b (Word KwAnyUniverse) = as_many n
one_choice n b (Word KwRegion) = as_many n
one_choice n b (Sign sign) = as_many n
one_choice n b Name = as_many n
one_choice n b Number = as_many n
one_choice n b Text = as_many n

-- nor have more expressions an `else` to come
pub choices_few : (before : List Kind) → choices before ≤ length before
choices_few [] = omega arith
choices_few (kind ∷ before) = omega (arith, choices_few before, one_choice (choices before) (begins before) kind)
