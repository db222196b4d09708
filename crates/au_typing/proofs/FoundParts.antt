-- Good notes of literals, parts, operands and operations are what the search gives.
use Rattle.std.proofs.Common.{◌≡◌, ℤ, Bool, true, false, List, [], ◌∷◌, sym, ap, ◌∙◌, Some, None, Ok}
use Rattle.au_ints.specs.Ranges.{is_of_kind}
use Rattle.au_syntax.specs.declared.expressions.BinaryOperator.{BinaryOperator}
use Rattle.au_syntax.specs.declared.expressions.BorrowMode.{BorrowMode}
use Rattle.au_syntax.specs.declared.expressions.BorrowMode.TheVariants.{Read, Write, Reborrow}
use Rattle.au_syntax.specs.Expressions.{Node, binary}
use Rattle.au_syntax.specs.Names.{Placed}
use Rattle.au_syntax.specs.Plain.{Bytes}
use Rattle.au_types.specs.declared.types.Region.{Region}
use Rattle.au_types.specs.Same.{same}
use Rattle.au_types.specs.Types as mean
use Rattle.au_types.specs.Types.{Meaning}
use Rattle.au_typing.specs.Scopes.{Scope}
use Rattle.au_typing.specs.Faults.{Noting, ◌>>=◌, check, unknown, different, not_free, shape, integer_wanted}
use Rattle.au_typing.specs.Faults.{range_wanted, record_wanted, reference_wanted}
use Rattle.au_typing.specs.Good.{GoodBinary, GoodBorrow, GoodLiteral, GoodPart, GoodPath, Kept, PairedModes}
use Rattle.au_typing.specs.Bare.{is_bare}
use Rattle.au_typing.specs.Limits.{are_within, types_noted}
use Rattle.au_typing.specs.Lookups.{target_behind, is_free_in, is_record, IsPart, part_type, record_part}
use Rattle.au_typing.specs.Notes.{Mode, Note, NotedExpression, mode_of, note_of, noted_at, type_of}
use Rattle.au_typing.specs.Operands.{Noter, before, behind_it, of_one_type, paired}
use Rattle.au_typing.specs.Rules.{is_compared, is_integer, literal_kind, noted, wanted_note}
use Rattle.au_typing.specs.Search.{arithmetic_note, arrow_note, binary_noted, borrow_part_note, borrowed}
use Rattle.au_typing.specs.Search.{comparison_note, dereference_note, literal_note, part_note, path_note}
use Rattle.au_typing.specs.Search.{read_note}
use Rattle.au_typing.proofs.Steps.{bind_found, check_found, known_found, noted_found, wanted_kept, within_found}

pub literal_found : (n : Note) (value : ℤ) → Kept n → GoodLiteral n value → literal_note n.mode value ≡ Ok n
literal_found n value k g =
    let kind = literal_kind n.mode in
    bind_found (λ (m : Note). check (is_of_kind kind value) (shape (range_wanted kind)) (Ok m))
    (noted_found n (mean.integer kind) k g.0)
    ∙ check_found (shape (range_wanted kind)) (Ok n) g.1

-- ---- parts

module _ (scope : Scope) where
  pub part_found : (t : Meaning) (fields : List (Placed Bytes)) (part : Meaning) →
      IsPart scope t fields part → part_type scope t fields ≡ Ok part
  part_found t [] part h = ap (λ (u : Meaning). Ok u) (sym h)
  part_found t (field ∷ fields) part h =
      bind_found (λ (next : Meaning). part_type scope next fields) (known_found (unknown field.name) h.1)
      ∙ part_found h.0 fields part h.2

  pub record_found : (t : Meaning) (fields : List (Placed Bytes)) (part : Meaning) →
      is_record scope t ≡ true → IsPart scope t fields part → record_part scope t fields ≡ Ok part
  record_found t fields part is h =
      check_found (shape record_wanted) (part_type scope t fields) is ∙ part_found t fields part h

  read_found : (n : Note) → Kept n → is_free_in scope n.of ≡ true → read_note scope n.mode n.of ≡ Ok n
  read_found n k free =
      within_found (types_noted n.mode n.of [])
      (check (is_free_in scope n.of) (not_free n.of) (wanted_note n.mode n.of)) k.limited
      ∙ (check_found (not_free n.of) (wanted_note n.mode n.of) free ∙ wanted_kept n k)

  part_note_found : (n : Note) (t : Meaning) (fields : List (Placed Bytes)) → Kept n →
      GoodPart scope t fields n.of → part_note scope n.mode t fields ≡ Ok n
  part_note_found n t fields k g =
      bind_found (read_note scope n.mode) (record_found t fields n.of g.0 g.1) ∙ read_found n k g.2

  pub path_found : (n : Note) (t : Meaning) (fields : List (Placed Bytes)) → Kept n →
      GoodPath scope t fields n.of → path_note scope n.mode fields t ≡ Ok n
  path_found n t [] k g = noted_found n t k g
  path_found n t (field ∷ fields) k g = part_note_found n t (field ∷ fields) k g

  pub arrow_found : (n : Note) (t target : Meaning) (fields : List (Placed Bytes)) → Kept n →
      target_behind t ≡ Some target → GoodPart scope target fields n.of → arrow_note scope n.mode fields t
      ≡ Ok n
  arrow_found n t target fields k is g =
      bind_found (λ (u : Meaning). part_note scope n.mode u fields) (known_found (shape reference_wanted) is)
      ∙ part_note_found n target fields k g

  pub dereference_found : (n : Note) (t : Meaning) → Kept n → target_behind t ≡ Some n.of →
      is_free_in scope n.of ≡ true → dereference_note scope n.mode t ≡ Ok n
  dereference_found n t k is free =
      bind_found (read_note scope n.mode) (known_found (shape reference_wanted) is) ∙ read_found n k free

  pub borrow_part_found : (n : Note) (target : Meaning) (region : Region) (part : Meaning)
      (fields : List (Placed Bytes)) → Kept n → is_record scope target ≡ true →
      IsPart scope target fields part → n.of ≡ mean.reads part region → borrow_part_note scope n.mode fields
      (mean.reads target region) ≡ Ok n
  borrow_part_found n target region part fields k is h of =
      bind_found (λ (u : Meaning). noted n.mode (mean.reads u region)) (record_found target fields part is h)
      ∙ noted_found n (mean.reads part region) k of

pub borrow_found : (m : BorrowMode) (t of : Meaning) → GoodBorrow m t of → borrowed m t ≡ Ok of
borrow_found Read t of g = ap (λ (u : Meaning). Ok u) (sym g)
borrow_found Write t of g = ap (λ (u : Meaning). Ok u) (sym g)
borrow_found Reborrow t of g = ap (borrowed Reborrow) g.2 ∙ ap (λ (u : Meaning). Ok u) (sym g.3)

-- ---- operands

pub paired_found : (x y : Bool) (e d : Noter) (mode : Mode) (a b : NotedExpression) → e (mode_of a) ≡ Ok a →
    d (mode_of b) ≡ Ok b → PairedModes x y mode (note_of a) (note_of b) → paired x y e d mode ≡ Ok (a, b)
paired_found true true e d mode a b f g h =
    bind_found (λ (x : NotedExpression). d mode >>= behind_it x) (ap e (sym h.0) ∙ f)
    ∙ bind_found (behind_it a) (ap d (sym h.1) ∙ g)
paired_found true false e d mode a b f g h =
    bind_found (λ (y : NotedExpression). e (Some (type_of y)) >>= before y) (ap d (sym h.0) ∙ g)
    ∙ bind_found (before b) (ap e (sym h.1) ∙ f)
paired_found false true e d mode a b f g h =
    bind_found (λ (x : NotedExpression). d (Some (type_of x)) >>= behind_it x) (ap e (sym h.0) ∙ f)
    ∙ bind_found (behind_it a) (ap d (sym h.1) ∙ g)
paired_found false false e d mode a b f g h =
    bind_found (λ (x : NotedExpression). d mode >>= behind_it x) (ap e (sym h.0) ∙ f)
    ∙ bind_found (behind_it a) (ap d (sym h.1) ∙ g)

pub one_type_found : {A : Type 0} (a b : NotedExpression) (rest : Noting A) → same (type_of a) (type_of b)
    ≡ true → of_one_type a b rest ≡ rest
one_type_found a b rest h = check_found (different (type_of a) (type_of b)) rest h

-- ---- operations

arithmetic_found : (n : Note) (t : Meaning) → Kept n → n.of ≡ t → is_integer n.of ≡ true →
    arithmetic_note n.mode t ≡ Ok n
arithmetic_found n t k of is =
    ap (arithmetic_note n.mode) (sym of)
    ∙ (within_found (types_noted n.mode n.of [])
    (check (is_integer n.of) (shape integer_wanted) (wanted_note n.mode n.of)) k.limited
    ∙ (check_found (shape integer_wanted) (wanted_note n.mode n.of) is ∙ wanted_kept n k))

comparison_found : (n : Note) (op : BinaryOperator) (a b : NotedExpression) → Kept n →
    same (type_of a) (type_of b) ≡ true → is_compared op (type_of a) ≡ true → n.of ≡ mean.truth →
    comparison_note op n.mode a b ≡ Ok n
comparison_found n op a b k one is of =
    one_type_step ∙ (check_found (shape integer_wanted) (wanted_note n.mode mean.truth) is
    ∙ (ap (wanted_note n.mode) (sym of) ∙ wanted_kept n k))
  where
    rest : Noting Note
    rest = check (is_compared op (type_of a)) (shape integer_wanted) (wanted_note n.mode mean.truth)

    one_type_step : comparison_note op n.mode a b ≡ rest
    one_type_step =
        within_found (types_noted n.mode mean.truth []) (of_one_type a b rest)
        (ap (λ (t : Meaning). are_within (types_noted n.mode t [])) (sym of) ∙ k.limited)
        ∙ one_type_found a b rest one

module _ (scope : Scope) where
  pub binary_found : (arithmetic logical : Bool) (n : Node Note) (op : BinaryOperator) (e d : Noter)
      (a b : NotedExpression) → e (mode_of a) ≡ Ok a → d (mode_of b) ≡ Ok b → Kept n.note →
      GoodBinary arithmetic logical op n.note a b → binary_noted scope arithmetic logical
      (record { at = n.at; note = tt }) op (is_bare a) (is_bare b) e d n.note.mode ≡ Ok (binary n op a b)
  binary_found true logical n op e d a b f g k h =
      bind_found (λ (z : NotedExpression × NotedExpression). of_one_type z.0 z.1
      (arithmetic_note n.note.mode (type_of z.0)) >>=
      λ (m : Note). Ok (binary (noted_at (record { at = n.at; note = tt }) m) op z.0 z.1))
      (paired_found (is_bare a) (is_bare b) e d n.note.mode a b f g h.paired.modes)
      ∙ bind_found (λ (m : Note). Ok (binary (noted_at (record { at = n.at; note = tt }) m) op a b))
      (one_type_found a b (arithmetic_note n.note.mode (type_of a)) h.paired.one_type
      ∙ arithmetic_found n.note (type_of a) k h.of h.is_whole)
  binary_found false true n op e d a b f g k h =
      bind_found (λ (left : NotedExpression). d (Some mean.truth) >>=
      λ (right : NotedExpression). noted n.note.mode mean.truth >>=
      λ (m : Note). Ok (binary (noted_at (record { at = n.at; note = tt }) m) op left right))
      (ap e (sym h.first) ∙ f)
      ∙ (bind_found (λ (right : NotedExpression). noted n.note.mode mean.truth >>=
      λ (m : Note). Ok (binary (noted_at (record { at = n.at; note = tt }) m) op a right))
      (ap d (sym h.second) ∙ g)
      ∙ bind_found (λ (m : Note). Ok (binary (noted_at (record { at = n.at; note = tt }) m) op a b))
      (noted_found n.note mean.truth k h.of))
  binary_found false false n op e d a b f g k h =
      bind_found (λ (z : NotedExpression × NotedExpression). comparison_note op n.note.mode z.0 z.1 >>=
      λ (m : Note). Ok (binary (noted_at (record { at = n.at; note = tt }) m) op z.0 z.1))
      (paired_found (is_bare a) (is_bare b) e d None a b f g h.paired.modes)
      ∙ bind_found (λ (m : Note). Ok (binary (noted_at (record { at = n.at; note = tt }) m) op a b))
      (comparison_found n.note op a b k h.paired.one_type h.compared h.of)
