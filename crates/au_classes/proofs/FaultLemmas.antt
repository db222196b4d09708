-- What one instance, and instances in order, are refused for.
use Rattle.std.proofs.Common.{◌≡◌, ℕ, ◌+◌, ◌<◌, ◌≤◌, suc, Bool, true, false, List, []}
use Rattle.std.proofs.Common.{◌∷◌, ◌++◌, length, map, drop, get_or, Option, None, Some, refl, sym, ap, ◌∙◌}
use Rattle.std.proofs.Common.{subst, add-one, drop-cons, append_assoc}
use Rattle.std.specs.Prelude.{slice_get}
use Rattle.std.specs.Option.{option_or, option_to_list}
use Rattle.std.proofs.lemmas.List.{append-nil, drop_all, map-append}
use Rattle.std.proofs.lemmas.Option.{none-some, same_Some}
use Rattle.au_base.specs.declared.places.Pos.{Pos}
use Rattle.au_syntax.specs.declared.modules.Part.TheVariants.{Body}
use Rattle.au_syntax.specs.Plain.{Bytes}
use Rattle.au_types.specs.declared.headings.Head.{Head}
use Rattle.au_types.specs.declared.types.DeclAt.{DeclAt}
use Rattle.au_types.specs.Types.{Meaning}
use Rattle.au_matching.specs.Forming.{StandsOver}
use Rattle.au_matching.proofs.LawLemmas.{well_formed_stands}
use Rattle.au_modules.specs.Programs.{ModuleParts}
use Rattle.au_names.specs.HeadsOf.{heads_of}
use Rattle.au_promises.specs.Agreeing.{visible}
use Rattle.au_judged_types.specs.Agreement.{found}
use Rattle.au_judged_types.specs.Judging.{judged}
use Rattle.au_judged_types.proofs.AgreementLemmas.{found_means, judged_is_meant}
use Rattle.au_judged_types.specs.declared.reading.Meant.{Meant}
use Rattle.au_judged_types.specs.declared.reading.Meant.TheVariants.{Are, Fails}
use Rattle.au_judged_types.specs.Bounds.{Bounded, parameters}
use Rattle.au_judged_types.specs.Meanings.{class_meant, generics_meant}
use Rattle.au_classes.specs.declared.instance_texts.InstanceText as code
use Rattle.au_classes.specs.Texts.{InstanceText, instances_of}
use Rattle.au_classes.specs.InstanceViews.{text_said, texts_said}
use Rattle.au_instances.specs.Rows.{Row}
use Rattle.au_classes.specs.Classes.{visible_in}
use Rattle.au_classes.specs.declared.faults.ClassFault.{ClassFault}
use Rattle.au_classes.specs.Faults.{Known, fault_of, first_fault, instance_fault, known_of, module_fault}
use Rattle.au_classes.specs.Faults.{read_fault, with_text, with_texts}
use Rattle.au_classes.specs.Rows.{row_in, row_of, row_of_class, row_over, row_seen, row_with, rows_of, rows_read}
use Rattle.au_classes.specs.ClassViews.{known_rows}

-- ---- the head of a row stands over the rows of declared types

module _ (text : InstanceText) (names : List (Bytes × DeclAt)) (heads : List (DeclAt × Head)) where
  stands_with : (class : DeclAt) (generics : List Bounded) (head : Option Meaning) (row : Row) →
      row_with text names heads class generics head ≡ Some row
      → ((t : Meaning) → head ≡ Some t → StandsOver heads (parameters generics) t) →
      StandsOver heads (parameters row.generics) row.head
  stands_with class generics None row is stand = absurd (none-some row is)
  stands_with class generics (Some head) row is stand =
      let same : record { instance = text.number; class = class; generics = generics; head = head } ≡ row =
      same_Some _ row is in
      subst (λ (r : Row). StandsOver heads (parameters r.generics) r.head) same (stand head refl)

  stands_over : (class : DeclAt) (generics : Meant) (row : Row) → row_over text names heads class generics
      ≡ Some row → StandsOver heads (parameters row.generics) row.head
  stands_over class (Fails why) row is = absurd (none-some row is)
  stands_over class (Are generics) row is =
      stands_with class generics (found (judged [] (parameters generics) names heads text.of)) row is
      (λ t found_t. well_formed_stands heads (parameters generics) t
      (judged_is_meant heads (parameters generics) [] names text.of t
      (found_means (judged [] (parameters generics) names heads text.of) t found_t)).1)

  stands_in : (class : Option DeclAt) (row : Row) → row_of_class text names heads class ≡ Some row →
      StandsOver heads (parameters row.generics) row.head
  stands_in None row is = absurd (none-some row is)
  stands_in (Some class) row is = stands_over class (generics_meant names heads text.generics) row is

  pub read_stands : (row : Row) → row_in text names heads ≡ Some row →
      StandsOver heads (parameters row.generics) row.head
  read_stands row is = stands_in (class_meant [] names heads text.name.name) row is

-- ---- one instance in its module

-- nothing is there
pub none_of : (o : Option ClassFault) → ((x : ClassFault) → o ≡ Some x → ⊥) → o ≡ None
none_of None h = refl
none_of (Some x) h = absurd (h x refl)

module _ (program : List ModuleParts) (text : InstanceText) (m : ModuleParts)
    (names own : List (Bytes × DeclAt)) (heads : List (DeclAt × Head)) (row : Row) where
  -- its row, by what the code sees
  row_read : names ≡ visible program text.number.«module» m text.part → heads ≡ heads_of program →
      row_in text names heads ≡ Some row
      → row_in text (visible program text.number.«module» m text.part) (heads_of program) ≡ Some row
  row_read seen rows is =
      ap (λ ns. row_in text ns (heads_of program)) (sym seen) ∙ ap (row_in text names) (sym rows) ∙ is

  pub row_there : slice_get program text.number.«module» ≡ Some m →
      names ≡ visible program text.number.«module» m text.part → heads ≡ heads_of program →
      row_in text names heads ≡ Some row
      → row_of program text ≡ Some row
  row_there here seen rows is =
      ap (λ o. row_seen text (heads_of program) (visible_in program text.number.«module» text.part o)) here
      ∙ row_read seen rows is

  pub fault_there : (known : List Known) → slice_get program text.number.«module» ≡ Some m →
      names ≡ visible program text.number.«module» m text.part → own ≡ visible program text.number.«module» m
      Body
      → heads ≡ heads_of program → row_in text names heads ≡ Some row
      → read_fault (heads_of program) known text program own (Some row) ≡ fault_of program known text
  fault_there known here seen body rows is =
      ap (λ ns. read_fault (heads_of program) known text program ns (Some row)) body
      ∙ sym
      (ap (module_fault program known text) here
      ∙ ap (read_fault (heads_of program) known text program (visible program text.number.«module» m Body))
      (row_read seen rows is))

-- ---- instances in order

module _ (program : List ModuleParts) where
  pub fault_cons : (known : List Known) (text : InstanceText) (texts : List InstanceText)
      → first_fault program known (text ∷ texts) ≡ option_or (fault_of program known text)
      (first_fault program (with_text program known text) texts)
  unfolding first_fault
  fault_cons known text texts = refl

  pub fault_nil : (known : List Known) → first_fault program known [] ≡ None
  unfolding first_fault
  fault_nil known = refl

  pub texts_cons : (known : List Known) (text : InstanceText) (texts : List InstanceText) →
      with_texts program known (text ∷ texts) ≡ with_texts program (with_text program known text) texts
  unfolding with_texts
  texts_cons known text texts = refl

  pub texts_nil : (known : List Known) → with_texts program known [] ≡ known
  unfolding with_texts
  texts_nil known = refl

  -- So many instances are good and known, so those that are left decide.
  pub record AdmittedSoFar (start : List Known) (items : List code.InstanceText) (i : ℕ) (known : List Known)
      : Type 0 where
    pub faults : first_fault program start (texts_said items) ≡ first_fault program known (texts_said (drop i items))
    pub rows : with_texts program start (texts_said items) ≡ with_texts program known (texts_said (drop i items))

  pub admitted_none : (start : List Known) (items : List code.InstanceText) → AdmittedSoFar start items 0 start
  admitted_none start items = record { faults = refl; rows = refl }

  module _ (start : List Known) (all items : List code.InstanceText) (i : ℕ) (known : List Known) where
    texts_left : (x : code.InstanceText) → i < length items → x ≡ get_or items i x → texts_said (drop i items)
        ≡ text_said x ∷ texts_said (drop (i + 1) items)
    texts_left x h here =
        ap texts_said (drop-cons items i x h)
        ∙ ap (λ y. text_said y ∷ texts_said (drop (suc i) items)) (sym here)
        ∙ ap (λ n. text_said x ∷ texts_said (drop n items)) (sym (add-one i))

    next : (x : code.InstanceText) → AdmittedSoFar start items i known → i < length items → x ≡ get_or items i x
        → first_fault program start (texts_said items) ≡ option_or (fault_of program known (text_said x))
        (first_fault program (with_text program known (text_said x)) (texts_said (drop (i + 1) items)))
    next x old h here = old.faults ∙ ap (first_fault program known) (texts_left x h here)
        ∙ fault_cons known (text_said x) (texts_said (drop (i + 1) items))

    -- the next instance is refused
    pub refused_here : (x : code.InstanceText) (o : Option ClassFault) (fault : ClassFault) →
        AdmittedSoFar start items i known → items ≡ all → i < length items → x ≡ get_or items i x
        → o ≡ fault_of program known (text_said x) → o ≡ Some fault → Some fault ≡ first_fault program start
        (texts_said all)
    refused_here x o fault old same h here is some =
        sym
        (ap (λ xs. first_fault program start (texts_said xs)) (sym same)
        ∙ next x old h here
        ∙ ap (λ f. option_or f (first_fault program (with_text program known (text_said x))
        (texts_said (drop (i + 1) items)))) (sym is ∙ some))

    -- it is good
    pub admitted_next : (x : code.InstanceText) (o : Option ClassFault) (after : List Known) →
        AdmittedSoFar start items i known → i < length items → x ≡ get_or items i x
        → o ≡ fault_of program known (text_said x) → o ≡ None →
        after ≡ with_text program known (text_said x) → AdmittedSoFar start items (i + 1) after
    admitted_next x o after old h here is none new = record {
      faults =
          next x old h here
          ∙ ap (λ f. option_or f (first_fault program (with_text program known (text_said x))
          (texts_said (drop (i + 1) items)))) (sym is ∙ none)
          ∙ ap (λ k. first_fault program k (texts_said (drop (i + 1) items))) (sym new);
      rows =
          old.rows
          ∙ ap (with_texts program known) (texts_left x h here)
          ∙ texts_cons known (text_said x) (texts_said (drop (i + 1) items))
          ∙ ap (λ k. with_texts program k (texts_said (drop (i + 1) items))) (sym new);
    }

    -- all are good
    pub admitted_all : AdmittedSoFar start items i known → items ≡ all → length items ≤ i
        → (None ≡ first_fault program start (texts_said all)) × (known ≡ with_texts program start (texts_said all))
    admitted_all old same past = (
      sym
          (ap (λ xs. first_fault program start (texts_said xs)) (sym same)
          ∙ old.faults
          ∙ ap (λ xs. first_fault program known (texts_said xs)) (drop_all i items past)
          ∙ fault_nil known),
      sym
          (ap (λ xs. with_texts program start (texts_said xs)) (sym same)
          ∙ old.rows
          ∙ ap (λ xs. with_texts program known (texts_said xs)) (drop_all i items past)
          ∙ texts_nil known),
    )

-- ---- the rows that are known in the end

abbrev row_in_known : Known → Row
row_in_known known = known.row

-- rows with places, without these
pub rows_back : (places : List Pos) (rows : List Row) → length places ≡ length rows →
    map row_in_known (known_rows places rows) ≡ rows
rows_back [] [] same = refl
rows_back [] (row ∷ rows) same = absurd cc
rows_back (at ∷ places) [] same = absurd cc
rows_back (at ∷ places) (row ∷ rows) same = ap (λ rest. row ∷ rest) (rows_back places rows (cc))

module _ (program : List ModuleParts) where
  row_alone : (at : Pos) (o : Option Row) → map row_in_known (known_of at o) ≡ option_to_list o
  row_alone at None = refl
  row_alone at (Some row) = refl

  rows_with : (known : List Known) (texts : List InstanceText) →
      map row_in_known (with_texts program known texts) ≡ map row_in_known known ++ rows_read program texts
  rows_with known [] = ap (map row_in_known) (texts_nil program known) ∙ sym (append-nil (map row_in_known known))
  rows_with known (text ∷ texts) =
      ap (map row_in_known) (texts_cons program known text texts)
      ∙ rows_with (with_text program known text) texts
      ∙ ap (λ rows. rows ++ rows_read program texts)
      (map-append row_in_known known (known_of text.at (row_of program text))
      ∙ ap (λ rows. map row_in_known known ++ rows) (row_alone text.at (row_of program text)))
      ∙ append_assoc (map row_in_known known) (option_to_list (row_of program text)) (rows_read program texts)

  -- they are those of the program
  pub rows_known : (places : List Pos) (rows : List Row) (start : List Known) (texts : List InstanceText) →
      length places ≡ length rows → start ≡ [] → texts ≡ instances_of program
      → known_rows places rows ≡ with_texts program start texts → rows ≡ rows_of program
  rows_known places rows start texts same none all is =
      sym (rows_back places rows same)
      ∙ ap (map row_in_known) is
      ∙ rows_with start texts
      ∙ ap (λ known. map row_in_known known ++ rows_read program texts) none
      ∙ ap (rows_read program) all

  -- and nothing is refused
  pub none_refused : (start : List Known) (texts : List InstanceText) (fault : Option ClassFault) →
      start ≡ [] → texts ≡ instances_of program → fault ≡ first_fault program start texts → fault ≡ None
      → instance_fault program ≡ None
  none_refused start texts fault none all is nothing =
      ap (first_fault program []) (sym all)
      ∙ ap (λ known. first_fault program known texts) (sym none)
      ∙ sym is
      ∙ nothing
