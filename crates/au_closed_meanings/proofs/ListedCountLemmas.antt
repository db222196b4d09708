-- By a list that has them the types count that have to.
use Rattle.std.proofs.Common.{◌≡◌, ℕ, zero, suc, Bool, true, false, List, [], ◌∷◌, map, refl, subst, ⊎_elim}
use Rattle.std.specs.Prelude.{Contains, if◌then◌else◌}
use Rattle.std.proofs.lemmas.List.Elements.{Contains-append_left, Contains-append_right, Contains-push}
use Rattle.std.proofs.lemmas.List.Elements.{Contains-push_cases}
use Rattle.au_base.proofs.ListLemmas.{nothing_there}
use Rattle.au_closed_trees.specs.Occurring.{counts_in, follows, occurring, all_occurring, occurring_in_cases}
use Rattle.au_closed_trees.specs.Occurring.{occurring_in_fields}
use Rattle.au_closed_trees.specs.Parts.{ClosedCase, ClosedField, cases_of}
use Rattle.au_closed_trees.specs.ClosedNotes.{ClosedNote}
use Rattle.au_type_texts.specs.Same.{same}
use Rattle.au_type_texts.specs.Types.{ClosedType, unit, truth, integer, text, named, reads, writes}
use Rattle.au_closed_meanings.specs.Programs.{fields_at}
use Rattle.au_modules.specs.Programs.{ModuleParts}
use Rattle.au_names.specs.HeadsOf.{heads_of}
use Rattle.au_graphs.specs.Reached.{Has}
use Rattle.au_closed_meanings.specs.Agreement.{FieldsCount, FoundCount}
use Rattle.au_closed_trees.specs.Types.{types_noted}
use Rattle.au_types.specs.declared.types.DeclAt.{DeclAt}
use Rattle.au_closed_meanings.specs.Generic.{case_seen, field_seen, fields_in}
use Rattle.au_closed_meanings.specs.Listed.{ListedCount, counts_by}
use Rattle.au_closed_meanings.proofs.CoveredLemmas.{AllOf, block_all}

module _ (all : List ClosedType) (counts : DeclAt → Bool) where
  -- a type counts where what occurs in it is listed
  type_counts : (t : ClosedType) → ((of : ClosedType) → Contains (occurring counts t) of → Has same all of)
      → counts_by all t ≡ true
  type_counts unit h = refl
  type_counts truth h = refl
  type_counts (integer kind) h = refl
  type_counts text h = refl
  type_counts (named at args) h =
      let rest = if counts at then all_occurring counts args else [] in
      h (named at args) (Contains-append_left (named at args ∷ []) rest (named at args)
      (Contains-push [] (named at args)))
  type_counts (reads to) h = type_counts to h
  type_counts (writes to) h = type_counts to h

  fields_count : (fields : List ClosedField)
      → ((of : ClosedType) → Contains (occurring_in_fields counts fields) of → Has same all of)
      → FieldsCount (counts_by all) (map field_seen fields)
  fields_count [] h = tt
  fields_count (f ∷ rest) h = (
    type_counts f.of (λ of k. h of
        (Contains-append_left (occurring counts f.of) (occurring_in_fields counts rest) of k)),
    fields_count rest
        (λ of k. h of (Contains-append_right (occurring counts f.of) (occurring_in_fields counts rest) of k)),
  )

  cases_count : (cases : List ClosedCase)
      → ((of : ClosedType) → Contains (occurring_in_cases counts cases) of → Has same all of) → (tag : ℕ)
      → FoundCount (counts_by all) (fields_at tag (map case_seen cases))
  cases_count [] h tag = tt
  cases_count (c ∷ rest) h zero =
      fields_count c.fields
      (λ of k. h of
      (Contains-append_left (occurring_in_fields counts c.fields) (occurring_in_cases counts rest) of k))
  cases_count (c ∷ rest) h (suc tag) =
      cases_count rest
      (λ of k. h of
      (Contains-append_right (occurring_in_fields counts c.fields) (occurring_in_cases counts rest) of k)) tag

module _ (program : List ModuleParts) (all : List ClosedType)
    (inside : (one of : ClosedType) → Has same all one → Contains
    (follows program one) of → Has same all of) where
  inside_counts : (of : ClosedType) → counts_by all of ≡ true → (tag : ℕ)
      → FoundCount (counts_by all) (fields_in program of tag)
  inside_counts unit k tag = tt
  inside_counts truth k tag = tt
  inside_counts (integer kind) k tag = tt
  inside_counts text k tag = tt
  inside_counts (named at args) k tag =
      cases_count all (counts_in false (heads_of program)) (cases_of program (named at args))
      (λ of h. inside (named at args) of k h) tag
  inside_counts (reads to) k tag = tt
  inside_counts (writes to) k tag = tt

-- the type of a note counts where what is noted is listed
note_counts : (program : List ModuleParts) (all : List ClosedType) (n : ClosedNote)
    → AllOf (λ of. Has same all of) (types_noted (heads_of program) n)
    → AllOf (λ of. counts_by all of ≡ true) (n.of ∷ [])
note_counts program all n h =
    let is = type_counts all (counts_in true (heads_of program)) n.of h.each in
    record {
      each = λ of k.
          ⊎_elim (λ none. absurd (nothing_there of none)) (λ e. subst (λ t. counts_by all t ≡ true) e is)
          (Contains-push_cases [] n.of of k);
    }

pub listed_count : ListedCount
listed_count program functions all lists = record {
  parameters = λ number f at.
      fields_count all (counts_in true (heads_of program)) f.parameters (lists.parameters number f at);
  notes = λ number f at.
      (block_all (λ of. counts_by all of ≡ true) (λ of. Has same all of) (λ (n : ClosedNote). n.of ∷ [])
      (types_noted (heads_of program)) (note_counts program all) f.body
      (record { each = lists.notes number f at })).each;
  inside = inside_counts program all lists.inside;
  references = record { reads = λ of. refl; writes = λ of. refl };
}
