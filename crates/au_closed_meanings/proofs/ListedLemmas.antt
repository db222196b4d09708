-- Rows that are made for a list of declared types say what the program itself says.
use Rattle.std.proofs.Common.{◌≡◌, Bool, true, false, ◌⊎◌, inl, inr, ⊎_elim, List, [], ◌∷◌, map, Some, None}
use Rattle.std.proofs.Common.{refl, sym, ap, ◌∙◌}
use Rattle.std.specs.Prelude.{cond}
use Rattle.std.proofs.lemmas.Bool.{or_cases}
use Rattle.au_closed_trees.specs.Parts.{ClosedCase, cases_of}
use Rattle.au_type_texts.proofs.SameLemmas.{same_is, same_self}
use Rattle.au_type_texts.specs.Same.{same}
use Rattle.au_type_texts.specs.Types.{ClosedType, unit, truth, integer, text, named, reads, writes}
use Rattle.au_closed_meanings.specs.Programs.{Row, case_from, fields_at, linear_by, row_in}
use Rattle.au_effects.specs.Parts.{along}
use Rattle.au_modules.specs.Programs.{ModuleParts}
use Rattle.au_graphs.specs.Reached.{Has, has}
use Rattle.au_closed_meanings.specs.Generic.{case_seen}
use Rattle.au_closed_meanings.specs.Listed.{RowsMadeSay, counts_by, row_for, rows_for}

module _ (program : List ModuleParts) where
  -- a type has no row, or its own
  row_either : (all : List ClosedType) (of : ClosedType)
      → (row_in (rows_for program all) of ≡ None) ⊎
      (row_in (rows_for program all) of ≡ Some (row_for program of))
  row_either [] of = inl refl
  row_either (k ∷ all) of = by (same k of) refl (row_either all of)
    where
      by : (b : Bool) → same k of ≡ b
          → (row_in (rows_for program all) of ≡ None)
          ⊎ (row_in (rows_for program all) of ≡ Some (row_for program of))
          → (cond b (Some (row_for program k)) (row_in (rows_for program all) of) ≡ None)
          ⊎ (cond b (Some (row_for program k)) (row_in (rows_for program all) of) ≡ Some (row_for program of))
      by true e later = inr (ap (λ t. Some (row_for program t)) (same_is k of e))
      by false e later = later

  -- a type that is listed has its own
  row_found : (all : List ClosedType) (of : ClosedType) → Has same all of
      → row_in (rows_for program all) of ≡ Some (row_for program of)
  row_found [] of h = absurd cc
  row_found (k ∷ all) of h = by (same k of) refl (row_found all of)
    where
      by : (b : Bool) → same k of ≡ b
          → (Has same all of → row_in (rows_for program all) of ≡ Some (row_for program of))
          → cond b (Some (row_for program k)) (row_in (rows_for program all) of) ≡ Some (row_for program of)
      by true e later = ap (λ t. Some (row_for program t)) (same_is k of e)
      by false e later =
          ⊎_elim
          (λ here. let wrong : false ≡ true = sym e ∙ ap (λ t. same k t)
          (same_is of k here) ∙ same_self k in absurd cc)
          later (or_cases (same of k) (has same all of) h)

  -- a type that counts has its own row, or no row and no case
  abbrev Stands : List ClosedType → ClosedType → Type 0
  Stands all of =
      (row_in (rows_for program all) of ≡ Some (row_for program of))
      ⊎ ((row_in (rows_for program all) of ≡ None) × (cases_of program of ≡ []))

  bare : (all : List ClosedType) (of : ClosedType) → cases_of program of ≡ [] → Stands all of
  bare all of none = ⊎_elim (λ p. inr (p, none)) inl (row_either all of)

  stands : (all : List ClosedType) (of : ClosedType) → counts_by all of ≡ true → Stands all of
  stands all unit k = bare all unit refl
  stands all truth k = bare all truth refl
  stands all (integer kind) k = bare all (integer kind) refl
  stands all text k = bare all text refl
  stands all (named at args) k = inl (row_found all (named at args) k)
  stands all (reads to) k = bare all (reads to) refl
  stands all (writes to) k = bare all (writes to) refl

pub rows_say : RowsMadeSay
rows_say program all = record {
  tags = λ of k name.
      ⊎_elim (λ p. ap (λ o. along o (λ (row : Row). case_from 0 name row.cases)) p)
      (λ q. ap (λ o. along o (λ (row : Row). case_from 0 name row.cases)) q.0
      ∙ sym (ap (λ (cs : List ClosedCase). case_from 0 name (map case_seen cs)) q.1))
      (stands program all of k);
  fields = λ of k tag.
      ⊎_elim (λ p. ap (λ o. along o (λ (row : Row). fields_at tag row.cases)) p)
      (λ q. ap (λ o. along o (λ (row : Row). fields_at tag row.cases)) q.0
      ∙ sym (ap (λ (cs : List ClosedCase). fields_at tag (map case_seen cs)) q.1)) (stands program all of k);
  linear = λ of k has_case.
      ⊎_elim (λ p. ap linear_by p)
      (λ q. let wrong : None ≡ Some has_case.1 =
      sym (ap (λ (cs : List ClosedCase). fields_at has_case.0 (map case_seen cs)) q.1) ∙ has_case.2
      in absurd cc)
      (stands program all of k);
}
