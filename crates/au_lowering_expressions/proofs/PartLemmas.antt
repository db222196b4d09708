-- Parts of variables.
use Rattle.std.proofs.Common.{◌≡◌, ◌≢◌, ℕ, true, false, is_some, List, [], ◌∷◌, ◌++◌, length, Option, Some}
use Rattle.std.proofs.Common.{None, refl, sym, ap, ◌∙◌, append_assoc, arith}
use Rattle.std.specs.Option.{option_map}
use Rattle.std.proofs.lemmas.Bool.{false≢true}
use Rattle.au_type_texts.specs.Types.{ClosedType}
use Rattle.au_effects.specs.Parts.{along}
use Rattle.au_lowered.specs.Drafts.{Draft, Written, given, nothing}
use Rattle.au_lowered.specs.Expressions.{looked_at, numbers_along, operand, part_behind, part_of}
use Rattle.au_lowering_expressions.specs.Parts.{Part, part_in, part_past}
use Rattle.au_lowering_expressions.specs.Wrote.{wrote}
use Rattle.au_lowering_expressions.proofs.WroteLemmas.{wrote_nothing}
use Rattle.au_meaning.specs.Expressions.{names_of, alone}
use Rattle.au_meaning.specs.Names.{Scope, Variable, field_of, path_numbers, target_behind, variable_of}
use Rattle.au_meaning.specs.Views.{Field, View}
use Rattle.au_syntax.specs.Expressions.{Expression, Node, number, path}
use Rattle.au_syntax.specs.Names.{Placed}
use Rattle.au_syntax.specs.Plain.{Bytes}

-- numbers with more behind them
abbrev pub behind_them : List ℕ → Option (List ℕ) → Option (List ℕ)
behind_them numbers rest = along rest (λ more. Some (numbers ++ more))

module _ (fields : ClosedType → Option (List Field)) where
  -- the first name of a path has its number, and the rest is left
  pub path_step : (t u : ClosedType) (name : Bytes) (names : List Bytes) (n : ℕ) (numbers : List ℕ)
      → along (fields t) (field_of name) ≡ Some (n, u)
      → behind_them numbers (path_numbers fields (Some t) (name ∷ names))
      ≡ behind_them (numbers ++ n ∷ []) (path_numbers fields (Some u) names)
  path_step t u name names n numbers is =
      ap (λ found. behind_them numbers (along found (λ (one : ℕ × ClosedType).
      along (path_numbers fields (Some one.1) names) (λ rest. Some (one.0 ∷ rest))))) is
      ∙ rest_in (path_numbers fields (Some u) names)
    where
      rest_in : (rest : Option (List ℕ))
          → behind_them numbers (along rest (λ more. Some (n ∷ more))) ≡ behind_them (numbers ++ n ∷ []) rest
      rest_in None = refl
      rest_in (Some more) = ap Some (sym (append_assoc numbers (n ∷ []) more))

  -- where the first name of a path isn't there, there are no numbers
  pub path_stops : (t : ClosedType) (name : Bytes) (names : List Bytes)
      → along (fields t) (field_of name) ≡ None
      → path_numbers fields (Some t) (name ∷ names) ≡ None
  path_stops t name names is =
      ap (λ found. along found (λ (one : ℕ × ClosedType).
      along (path_numbers fields (Some one.1) names) (λ rest. Some (one.0 ∷ rest)))) is

-- what is done with a part that was found
abbrev pub with_part : Option Part → (ℕ → List ℕ → Written) → Written
with_part part write = given part (λ one. write one.0 one.1)

module _ {T C : Type 0} (see : View ℕ T C) where
  pub part_of_is : (variable : Option Variable) (names : List Bytes) (write : ℕ → List ℕ → Written)
      → part_of see variable names write ≡ with_part (part_in see variable names) write
  part_of_is None names write = refl
  part_of_is (Some x) names write = found_is (numbers_along see x.of names)
    where
      found_is : (numbers : Option (List ℕ))
          → given numbers (write x.number)
          ≡ with_part (option_map (λ (all : List ℕ). (x.number, all)) numbers) write
      found_is None = refl
      found_is (Some all) = refl

  pub part_behind_is : (variable : Option Variable) (names : List Bytes) (write : ℕ → List ℕ → Written)
      → part_behind see variable names write ≡ with_part (part_past see variable names) write
  part_behind_is None names write = refl
  part_behind_is (Some x) names write = found_is (numbers_along see (target_behind x.of) names)
    where
      found_is : (numbers : Option (List ℕ))
          → given numbers (write x.number)
          ≡ with_part (option_map (λ (all : List ℕ). (x.number, all)) numbers) write
      found_is None = refl
      found_is (Some all) = refl

-- the operand of `!` is the variable that stands alone or in parentheses, if one does
pub operand_is : {T C : Type 0} (scope : Scope) (e : Expression Bytes T C) (other : Written)
    → operand scope e other ≡ looked_at (alone scope e) other
operand_is scope e other = refl

-- ---- names with and without fields

-- a name alone is its variable, and a part of one isn't alone
pub alone_path : {T : Type 0} (C : Type 0) (scope : Scope) (n : Node T) (x : Placed Bytes)
    (fields : List (Placed Bytes))
    → length fields ≡ 0 → alone {C = C} scope (path n x fields) ≡ variable_of scope x.name
alone_path C scope n x [] is = refl
alone_path C scope n x (field ∷ rest) is = absurd (omega arith)

pub alone_part : {T : Type 0} (C : Type 0) (scope : Scope) (n : Node T) (x : Placed Bytes)
    (fields : List (Placed Bytes))
    → length fields ≢ 0 → alone {C = C} scope (path n x fields) ≡ None
alone_part C scope n x [] isnt = absurd (isnt refl)
alone_part C scope n x (field ∷ rest) isnt = refl

-- where no type is known, there are no numbers of fields
pub no_numbers : (fields : ClosedType → Option (List Field)) (names : List (Placed Bytes)) → length names ≢ 0
    → path_numbers fields None (names_of names) ≡ None
no_numbers fields [] isnt = absurd (isnt refl)
no_numbers fields (name ∷ rest) isnt = refl

-- ---- what is looked at

-- where a variable stands alone, it is looked at, and where none does, the other code is written
pub operand_alone : {T C : Type 0} (scope : Scope) (e : Expression Bytes T C) (other : Written)
    (d d1 : List Draft) → is_some (alone scope e) ≡ true
    → d1 ≡ wrote (looked_at (alone scope e) nothing) d → d1 ≡ wrote (operand scope e other) d
operand_alone scope e other d d1 found is =
    by_found (alone scope e) found is ∙ sym (ap (λ w. wrote w d) (operand_is scope e other))
  where
    by_found : (o : Option Variable) → is_some o ≡ true → d1 ≡ wrote (looked_at o nothing) d
        → d1 ≡ wrote (looked_at o other) d
    by_found None some written = absurd (false≢true some)
    by_found (Some x) some written = written

pub operand_other : {T C : Type 0} (scope : Scope) (e : Expression Bytes T C) (other : Written)
    (d d1 d2 : List Draft) → is_some (alone scope e) ≡ false
    → d1 ≡ wrote (looked_at (alone scope e) nothing) d → d2 ≡ wrote other d1
    → d2 ≡ wrote (operand scope e other) d
operand_other scope e other d d1 d2 found is more =
    by_found (alone scope e) found is ∙ sym (ap (λ w. wrote w d) (operand_is scope e other))
  where
    by_found : (o : Option Variable) → is_some o ≡ false → d1 ≡ wrote (looked_at o nothing) d
        → d2 ≡ wrote (looked_at o other) d
    by_found None none written = more ∙ ap (wrote other) (written ∙ wrote_nothing d)
    by_found (Some x) none written = absurd (false≢true (sym none))
