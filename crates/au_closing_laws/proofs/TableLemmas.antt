-- The rows of the instances of a program are a table where each instance is good after those before it.
use Rattle.std.proofs.Common.{◌≡◌, ◌⊎◌, inl, inr, List, [], ◌∷◌, ◌++◌, Option, None, Some, refl, sym, ap, ◌∙◌}
use Rattle.std.proofs.Common.{subst, append_assoc, arith}
use Rattle.std.specs.Prelude.{Contains, get_or}
use Rattle.std.specs.Option.{option_to_list}
use Rattle.std.proofs.lemmas.Grind.{flat_map-append}
use Rattle.std.proofs.lemmas.List.{append-nil}
use Rattle.std.proofs.lemmas.List.Elements.{Contains-append_cases, Contains-get_or, Contains-push_cases}
use Rattle.std.proofs.lemmas.List.Quantifiers.{all_pairs_push}
use Rattle.au_base.proofs.ListLemmas.{only_item, nothing_there, Contains-first, Contains-rest}
use Rattle.au_modules.specs.Programs.{ModuleParts}
use Rattle.au_classes.specs.Texts.{InstanceText, instances_of}
use Rattle.au_instances.specs.Forms.{HasForm}
use Rattle.au_instances.specs.Rows.{Row}
use Rattle.au_instances.specs.Tables.{AreApart, IsTable}
use Rattle.au_classes.specs.Good.{InstancesAreGood, IsGood}
use Rattle.au_classes.specs.Rows.{row_of, rows_of, rows_read}

-- rows stay a table with one more, where each of them is apart from it
table_push : (rows : List Row) (row : Row) → IsTable rows → HasForm row.generics row.head →
    ((other : Row) → Contains rows other → AreApart other row) → IsTable (rows ++ row ∷ [])
table_push rows row table form apart = record {
  formed = λ other listed. formed_so other (Contains-push_cases rows row other listed);
  apart = all_pairs_push AreApart rows row table.apart
      (λ k d inside. apart (get_or rows k d) (Contains-get_or rows k d inside));
}
  where
    formed_so : (other : Row) → Contains rows other ⊎ (row ≡ other) → HasForm other.generics other.head
    formed_so other (inl listed) = table.formed other listed
    formed_so other (inr is) = subst (λ r. HasForm r.generics r.head) is form

-- no row is a table
table_empty : IsTable []
table_empty = record {
  formed = λ row listed. absurd (nothing_there row listed);
  apart = λ i j d before inside. absurd (omega arith);
}

module _ (program : List ModuleParts) where
  -- the rows of instances with one more
  read_next : (before : List InstanceText) (text : InstanceText) (row : Row) → row_of program text
      ≡ Some row → rows_read program (before ++ text ∷ []) ≡ rows_read program before ++ row ∷ []
  read_next before text row reads =
      flat_map-append (λ t. option_to_list (row_of program t)) before (text ∷ [])
      ∙ ap (λ o. rows_read program before ++ (option_to_list o ++ [])) reads

  -- a row that is read is that of an instance
  pub read_of : (texts : List InstanceText) (row : Row) → Contains (rows_read program texts) row →
      (text : InstanceText) × Contains texts text × (row_of program text ≡ Some row)
  read_of [] row listed = absurd (nothing_there row listed)
  read_of (text ∷ rest) row listed =
      by (row_of program text) refl (Contains-append_cases (option_to_list (row_of program text))
      (rows_read program rest) row listed)
      (λ behind. let its = read_of rest row behind in (its.0, Contains-rest text rest its.0 its.1, its.2))
    where
      by : (o : Option Row) → row_of program text ≡ o → Contains (option_to_list o) row
          ⊎ Contains (rows_read program rest) row
          → (Contains (rows_read program rest) row → (t : InstanceText) × Contains (text ∷ rest) t
          × (row_of program t ≡ Some row))
          → (t : InstanceText) × Contains (text ∷ rest) t × (row_of program t ≡ Some row)
      by o e (inr behind) later = later behind
      by None e (inl here) later = absurd (nothing_there row here)
      by (Some one) e (inl here) later =
          (text, Contains-first text rest, e ∙ ap Some (only_item one row here))

  module _ (good : InstancesAreGood program) where
    step : (before : List InstanceText) (text : InstanceText) → IsTable (rows_read program before) →
        IsGood program before text → IsTable (rows_read program (before ++ text ∷ []))
    step before text table one =
        subst IsTable (sym (read_next before text one.row one.reads))
        (table_push (rows_read program before) one.row table one.form
        (λ other listed. let its = read_of before other listed in one.apart its.0 other its.1 its.2))

    read_table : (before texts : List InstanceText) → instances_of program ≡ before ++ texts →
        IsTable (rows_read program before) → IsTable (rows_read program (before ++ texts))
    read_table before [] whole table = subst (λ ts. IsTable (rows_read program ts)) (sym (append-nil before)) table
    read_table before (text ∷ rest) whole table =
        subst (λ ts. IsTable (rows_read program ts)) (append_assoc before (text ∷ []) rest)
        (read_table (before ++ text ∷ []) rest (whole ∙ sym (append_assoc before (text ∷ []) rest))
        (step before text table (good before rest text whole)))

-- the rows of the instances of a program are a table where the rule on instances holds
pub good_table : (program : List ModuleParts) → InstancesAreGood program → IsTable (rows_of program)
good_table program good = read_table program good [] (instances_of program) refl table_empty
