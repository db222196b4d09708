-- What the search gives of literals, parts, operands and operations is good.
use Rattle.std.proofs.Common.{◌≡◌, ℤ, Bool, true, false, List, [], ◌∷◌, refl, sym, ap, subst, ◌∙◌, Some, Ok}
use Rattle.au_ints.specs.Ranges.{is_of_kind}
use Rattle.au_syntax.specs.declared.expressions.BinaryOperator.{BinaryOperator}
use Rattle.au_syntax.specs.declared.expressions.BorrowMode.{BorrowMode}
use Rattle.au_syntax.specs.declared.expressions.BorrowMode.TheVariants.{Read, Write, Reborrow}
use Rattle.au_syntax.specs.Names.{Placed}
use Rattle.au_syntax.specs.Plain.{Bytes, PlainExpression}
use Rattle.au_types.specs.declared.types.Region.{Region}
use Rattle.au_types.specs.declared.types.Region.TheVariants.{Anonymous}
use Rattle.au_types.specs.Same.{same}
use Rattle.au_types.specs.Types as mean
use Rattle.au_types.specs.Types.{Meaning}
use Rattle.au_judged_types.specs.Reasons.{Outcome, means, fails}
use Rattle.au_typing.specs.Scopes.{Scope}
use Rattle.au_typing.specs.Faults.{Noting, ◌>>=◌, check, known_or, unknown, different, not_free, shape}
use Rattle.au_typing.specs.Faults.{integer_wanted, range_wanted, record_wanted, reference_wanted}
use Rattle.au_typing.specs.Good.{AllGood, IsNoting, GoodBorrow, GoodLiteral, GoodPart, GoodPath, Kept, PairedModes}
use Rattle.au_typing.specs.Limits.{types_noted}
use Rattle.au_typing.specs.Lookups.{target_behind, field_type, is_free_in, is_record, IsPart, outcome_noted}
use Rattle.au_typing.specs.Lookups.{part_type, record_part}
use Rattle.au_typing.specs.Notes.{Mode, Note, NotedExpression, erase, note_of, type_of}
use Rattle.au_typing.specs.Operands.{Noter, before, behind_it, of_one_type, paired}
use Rattle.au_typing.specs.Rules.{is_compared, is_integer, literal_kind, noted, wanted_note}
use Rattle.au_typing.specs.Search.{arithmetic_note, arrow_note, borrow_part_note, borrowed, comparison_note}
use Rattle.au_typing.specs.Search.{dereference_note, literal_note, part_note, path_note, read_note}
use Rattle.au_typing.proofs.Steps.{bind_ok, check_ok, is_note, known_ok, noted_ok, ok_same, within_ok}

-- a note is kept, has this mode, and its type meets P
abbrev pub HasNote : Mode → (Meaning → Type 0) → Note → Type 0
HasNote mode P n = Kept n × (n.mode ≡ mode) × P n.of

pub literal_sound : (mode : Mode) (value : ℤ) (n : Note) → literal_note mode value ≡ Ok n → Kept n
    × (n.mode ≡ mode) × GoodLiteral n value
literal_sound mode value n e =
    let kind = literal_kind mode in
    let b = bind_ok (noted mode (mean.integer kind))
    (λ (m : Note). check (is_of_kind kind value) (shape (range_wanted kind)) (Ok m)) n e in
    let c = check_ok (is_of_kind kind value) (shape (range_wanted kind)) (Ok b.0) n b.2 in
    let k = noted_ok mode (mean.integer kind) b.0 b.1 in
    let good : GoodLiteral b.0 value = (
      k.2 ∙ ap (λ (m : Mode). mean.integer (literal_kind m)) (sym k.1),
      ap (λ (m : Mode). is_of_kind (literal_kind m) value) k.1 ∙ c.0,
    ) in
    subst (λ (m : Note). Kept m × (m.mode ≡ mode) × GoodLiteral m value) (ok_same b.0 n c.1) (k.0, k.1, good)

-- ---- parts

module _ (scope : Scope) where
  part_sound : (t : Meaning) (fields : List (Placed Bytes)) (part : Meaning) → part_type scope t fields
      ≡ Ok part → IsPart scope t fields part
  part_sound t [] part e = sym (ok_same t part e)
  part_sound t (field ∷ fields) part e =
      let b = bind_ok (known_or (unknown field.name) (field_type scope t field.name))
      (λ (next : Meaning). part_type scope next fields) part e in
      (b.0, known_ok (unknown field.name) (field_type scope t field.name) b.0 b.1, part_sound b.0 fields part b.2)

  record_sound : (t : Meaning) (fields : List (Placed Bytes)) (part : Meaning) → record_part scope t fields
      ≡ Ok part → (is_record scope t ≡ true) × IsPart scope t fields part
  record_sound t fields part e =
      let c = check_ok (is_record scope t) (shape record_wanted) (part_type scope t fields) part e in
      (c.0, part_sound t fields part c.1)

  read_sound : (mode : Mode) (t : Meaning) (n : Note) → read_note scope mode t ≡ Ok n → Kept n
      × (n.mode ≡ mode) × (n.of ≡ t) × (is_free_in scope t ≡ true)
  read_sound mode t n e =
      let w = within_ok (types_noted mode t []) (check (is_free_in scope t) (not_free t) (wanted_note mode t)) n e in
      let c = check_ok (is_free_in scope t) (not_free t) (wanted_note mode t) n w.1 in
      let k = is_note mode t n w.0 c.1 in
      (k.0, k.1, k.2, c.0)

  part_note_sound : (mode : Mode) (t : Meaning) (fields : List (Placed Bytes)) (n : Note) →
      part_note scope mode t fields ≡ Ok n → HasNote mode (GoodPart scope t fields) n
  part_note_sound mode t fields n e =
      let b = bind_ok (record_part scope t fields) (read_note scope mode) n e in
      let p = record_sound t fields b.0 b.1 in
      let k = read_sound mode b.0 n b.2 in
      (k.0, k.1, subst (GoodPart scope t fields) (sym k.2) (p.0, p.1, k.3))

  pub path_sound : (mode : Mode) (fields : List (Placed Bytes)) (t : Meaning) (n : Note) →
      path_note scope mode fields t ≡ Ok n → HasNote mode (GoodPath scope t fields) n
  path_sound mode [] t n e = noted_ok mode t n e
  path_sound mode (field ∷ fields) t n e = part_note_sound mode t (field ∷ fields) n e

  pub arrow_sound : (mode : Mode) (fields : List (Placed Bytes)) (t : Meaning) (n : Note) →
      arrow_note scope mode fields t ≡ Ok n → (target : Meaning) × (target_behind t ≡ Some target)
      × HasNote mode (GoodPart scope target fields) n
  arrow_sound mode fields t n e =
      let b = bind_ok (known_or (shape reference_wanted) (target_behind t))
      (λ (target : Meaning). part_note scope mode target fields) n e in
      (b.0, known_ok (shape reference_wanted) (target_behind t) b.0 b.1, part_note_sound mode b.0 fields n b.2)

  pub dereference_sound : (mode : Mode) (t : Meaning) (n : Note) → dereference_note scope mode t ≡ Ok n →
      Kept n × (n.mode ≡ mode) × (target_behind t ≡ Some n.of) × (is_free_in scope n.of ≡ true)
  dereference_sound mode t n e =
      let b = bind_ok (known_or (shape reference_wanted) (target_behind t)) (read_note scope mode) n e in
      let k = read_sound mode b.0 n b.2 in (
        k.0,
        k.1,
        known_ok (shape reference_wanted) (target_behind t) b.0 b.1
            ∙ ap (λ (u : Meaning). Some u) (sym k.2),
        ap (is_free_in scope) k.2 ∙ k.3,
      )

  -- a reference to a part, from a reference of this type
  abbrev pub PartOf : List (Placed Bytes) → Meaning → Meaning → Type 0
  PartOf fields t of =
      (target : Meaning) × (region : Region) × (part : Meaning) × (t ≡ mean.reads target region)
      × (is_record scope target ≡ true) × IsPart scope target fields part × (of ≡ mean.reads part region)

  pub borrow_part_sound : (mode : Mode) (fields : List (Placed Bytes)) (t : Meaning) (n : Note) →
      borrow_part_note scope mode fields t ≡ Ok n → HasNote mode (PartOf fields t) n
  borrow_part_sound mode fields (mean.reads target region) n e =
      let b = bind_ok (record_part scope target fields) (λ (part : Meaning). noted mode (mean.reads part region)) n e in
      let p = record_sound target fields b.0 b.1 in
      let k = noted_ok mode (mean.reads b.0 region) n b.2 in
      (k.0, k.1, (target, region, b.0, refl, p.0, p.1, k.2))
  borrow_part_sound mode fields t n e = absurd cc

pub borrow_sound : (m : BorrowMode) (t of : Meaning) → borrowed m t ≡ Ok of → GoodBorrow m t of
borrow_sound Read t of e = sym (ok_same (mean.reads t Anonymous) of e)
borrow_sound Write t of e = sym (ok_same (mean.writes t Anonymous) of e)
borrow_sound Reborrow (mean.writes target region) of e =
    (target, region, refl, sym (ok_same (mean.writes target Anonymous) of e))
borrow_sound Reborrow t of e = absurd cc

pub outcome_sound : (o : Outcome Meaning) (t : Meaning) → outcome_noted o ≡ Ok t → o ≡ means t
outcome_sound (means u) t e = ap means (ok_same u t e)
outcome_sound (fails reason) t e = absurd cc

-- ---- operands

-- what is noted is good
abbrev pub Sounds : Scope → Noter → PlainExpression → Type 0
Sounds scope e p = (mode : Mode) (a : NotedExpression) → e mode ≡ Ok a → IsNoting scope p mode a

-- two good notings of operands, with the modes of a pair
abbrev pub IsPair : Scope → Bool → Bool → PlainExpression → PlainExpression → Mode → NotedExpression
    × NotedExpression → Type 0
IsPair scope x y p q mode z =
    AllGood scope z.0 × AllGood scope z.1 × (erase z.0 ≡ p) × (erase z.1 ≡ q)
    × PairedModes x y mode (note_of z.0) (note_of z.1)

pub paired_sound : (scope : Scope) (x y : Bool) (e d : Noter) (p q : PlainExpression) (mode : Mode)
    (z : NotedExpression × NotedExpression) → Sounds scope e p → Sounds scope d q → paired x y e d mode ≡ Ok z →
    IsPair scope x y p q mode z
paired_sound scope true true e d p q mode z f g h =
    let a = bind_ok (e mode) (λ (u : NotedExpression). d mode >>= behind_it u) z h in
    let b = bind_ok (d mode) (behind_it a.0) z a.2 in
    let i = f mode a.0 a.1 in
    let j = g mode b.0 b.1 in
    subst (IsPair scope true true p q mode) (ok_same (a.0, b.0) z b.2) (i.0, j.0, i.2, j.2, (i.1, j.1))
paired_sound scope false false e d p q mode z f g h =
    let a = bind_ok (e mode) (λ (u : NotedExpression). d mode >>= behind_it u) z h in
    let b = bind_ok (d mode) (behind_it a.0) z a.2 in
    let i = f mode a.0 a.1 in
    let j = g mode b.0 b.1 in
    subst (IsPair scope false false p q mode) (ok_same (a.0, b.0) z b.2) (i.0, j.0, i.2, j.2, (i.1, j.1))
paired_sound scope true false e d p q mode z f g h =
    let b = bind_ok (d mode) (λ (u : NotedExpression). e (Some (type_of u)) >>= before u) z h in
    let a = bind_ok (e (Some (type_of b.0))) (before b.0) z b.2 in
    let i = f (Some (type_of b.0)) a.0 a.1 in
    let j = g mode b.0 b.1 in
    subst (IsPair scope true false p q mode) (ok_same (a.0, b.0) z a.2) (i.0, j.0, i.2, j.2, (j.1, i.1))
paired_sound scope false true e d p q mode z f g h =
    let a = bind_ok (e mode) (λ (u : NotedExpression). d (Some (type_of u)) >>= behind_it u) z h in
    let b = bind_ok (d (Some (type_of a.0))) (behind_it a.0) z a.2 in
    let i = f mode a.0 a.1 in
    let j = g (Some (type_of a.0)) b.0 b.1 in
    subst (IsPair scope false true p q mode) (ok_same (a.0, b.0) z b.2) (i.0, j.0, i.2, j.2, (i.1, j.1))

pub one_type_sound : {A : Type 0} (a b : NotedExpression) (rest : Noting A) (y : A) → of_one_type a b rest
    ≡ Ok y → (same (type_of a) (type_of b) ≡ true) × (rest ≡ Ok y)
one_type_sound a b rest y e =
    check_ok (same (type_of a) (type_of b)) (different (type_of a) (type_of b)) rest y e

-- ---- operations

pub arithmetic_sound : (mode : Mode) (t : Meaning) (n : Note) → arithmetic_note mode t ≡ Ok n → Kept n
    × (n.mode ≡ mode) × (n.of ≡ t) × (is_integer n.of ≡ true)
arithmetic_sound mode t n e =
    let w = within_ok (types_noted mode t []) (check (is_integer t) (shape integer_wanted) (wanted_note mode t)) n e in
    let c = check_ok (is_integer t) (shape integer_wanted) (wanted_note mode t) n w.1 in
    let k = is_note mode t n w.0 c.1 in
    (k.0, k.1, k.2, ap is_integer k.2 ∙ c.0)

pub comparison_sound : (op : BinaryOperator) (mode : Mode) (a b : NotedExpression) (n : Note) →
    comparison_note op mode a b ≡ Ok n → Kept n × (n.mode ≡ mode) × (n.of ≡ mean.truth)
    × (same (type_of a) (type_of b) ≡ true) × (is_compared op (type_of a) ≡ true)
comparison_sound op mode a b n e =
    let rest = check (is_compared op (type_of a)) (shape integer_wanted) (wanted_note mode mean.truth) in
    let w = within_ok (types_noted mode mean.truth []) (of_one_type a b rest) n e in
    let o = one_type_sound a b rest n w.1 in
    let c = check_ok (is_compared op (type_of a)) (shape integer_wanted) (wanted_note mode mean.truth) n o.1 in
    let k = is_note mode mean.truth n w.0 c.1 in
    (k.0, k.1, k.2, o.0, c.0)
