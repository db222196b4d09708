-- Steps of the search tell what the first clause tells that doesn't hold.
use Rattle.std.proofs.Common.{◌≡◌, ◌⊎◌, inl, inr, ℤ, Bool, true, false, List, [], ◌∷◌, refl, sym, ap, subst}
use Rattle.std.proofs.Common.{◌∙◌, Option, Some, None, Ok, Err, if◌then◌else◌}
use Rattle.std.proofs.lemmas.Option.{same_Some}
use Rattle.au_base.specs.declared.limits.Limit.{Limit}
use Rattle.au_ints.specs.Ranges.{is_of_kind}
use Rattle.au_syntax.specs.declared.expressions.BinaryOperator.{BinaryOperator}
use Rattle.au_syntax.specs.declared.expressions.BorrowMode.{BorrowMode}
use Rattle.au_syntax.specs.declared.expressions.BorrowMode.TheVariants.{Read, Write, Reborrow}
use Rattle.au_syntax.specs.Names.{Placed}
use Rattle.au_syntax.specs.Plain.{Bytes}
use Rattle.au_types.specs.declared.types.Region.TheVariants.{Anonymous}
use Rattle.au_types.specs.Same.{same}
use Rattle.au_types.specs.Types as mean
use Rattle.au_types.specs.Types.{Meaning}
use Rattle.au_typing.specs.Scopes.{Scope}
use Rattle.au_typing.specs.Faults.{Fault, Noting, ◌>>=◌, Why, why, limit, check, known_or, unknown, different}
use Rattle.au_typing.specs.Faults.{not_free, shape, integer_wanted, range_wanted, record_wanted}
use Rattle.au_typing.specs.Faults.{reference_wanted, write_reference_wanted}
use Rattle.au_typing.specs.Limits.{limit_among, types_noted, unless_limit, within}
use Rattle.au_typing.specs.Lookups.{target_behind, field_type, is_free_in, is_record, part_type, record_part}
use Rattle.au_typing.specs.Notes.{Mode, Note, NotedExpression, plain_note, type_of}
use Rattle.au_typing.specs.Operands.{of_one_type}
use Rattle.au_typing.specs.Rules.{is_compared, is_integer, literal_kind, noted, wanted_note}
use Rattle.au_typing.specs.Search.{arithmetic_note, arrow_note, borrow_part_note, borrowed, comparison_note}
use Rattle.au_typing.specs.Search.{dereference_note, literal_note, part_note, path_note, read_note}
use Rattle.au_typing.specs.SearchCalls.{unless_why}
use Rattle.au_laws.specs.Clauses.{Clause, TellsFirst, as_wanted, broken, has_type, in_limits, must, must_be, must_lack}
use Rattle.au_laws.specs.NodeClauses.{of_arithmetic, of_arrow, of_borrow, of_borrowed_part, of_comparison}
use Rattle.au_laws.specs.NodeClauses.{of_dereference, of_fields, of_literal, of_part, of_path, of_read}

-- ---- what is told

-- the fault of a step
abbrev pub fault_of : {A : Type 0} → Noting A → Option Fault
fault_of (Ok x) = None
fault_of (Err fault) = Some fault

-- what the first clause tells that doesn't hold
abbrev pub first_told : List Clause → Option Fault
first_told [] = None
first_told (one ∷ rest) = if one.holds then first_told rest else Some one.told

-- a step tells what these clauses tell
abbrev pub Tells : {A : Type 0} → Noting A → List Clause → Type 0
Tells r cs = fault_of r ≡ first_told cs

by_test : (b : Bool) (told : Fault) (rest : List Clause) (f : Fault)
    → (first_told rest ≡ Some f → TellsFirst rest f) → (if b then first_told rest else Some told) ≡ Some f
    → ((b ≡ false) × (f ≡ told)) ⊎ ((b ≡ true) × TellsFirst rest f)
by_test true told rest f more h = inr (refl, more h)
by_test false told rest f more h = inl (refl, sym (same_Some told f h))

pub tells_first : (cs : List Clause) (f : Fault) → first_told cs ≡ Some f → TellsFirst cs f
tells_first [] f h = absurd cc
tells_first (one ∷ rest) f h = by_test one.holds one.told rest f (tells_first rest f) h

of_test : (b : Bool) (told : Fault) (rest : List Clause) (f : Fault)
    → (TellsFirst rest f → first_told rest ≡ Some f)
    → ((b ≡ false) × (f ≡ told)) ⊎ ((b ≡ true) × TellsFirst rest f)
    → (if b then first_told rest else Some told) ≡ Some f
of_test b told rest f more (inl h) =
    ap (λ t. if t then first_told rest else Some told) h.0 ∙ ap Some (sym h.1)
of_test b told rest f more (inr h) = ap (λ t. if t then first_told rest else Some told) h.0 ∙ more h.1

pub first_is : (cs : List Clause) (f : Fault) → TellsFirst cs f → first_told cs ≡ Some f
first_is [] f h = absurd h
first_is (one ∷ rest) f h = of_test one.holds one.told rest f (first_is rest f) h

err_of : {A : Type 0} (r : Noting A) (f : Fault) → fault_of r ≡ Some f → r ≡ Err f
err_of (Ok x) f h = absurd cc
err_of (Err g) f h = ap Err (same_Some g f h)

-- where a step tells what clauses tell, it fails just as the first of them that doesn't hold
pub fails_first : {A : Type 0} (r : Noting A) (cs : List Clause) (f : Fault) → Tells r cs → r ≡ Err f
    → TellsFirst cs f
fails_first r cs f told h = tells_first cs f (sym told ∙ ap fault_of h)

pub first_fails : {A : Type 0} (r : Noting A) (cs : List Clause) (f : Fault) → Tells r cs → TellsFirst cs f
    → r ≡ Err f
first_fails r cs f told h = err_of r f (told ∙ first_is cs f h)

-- ---- steps

pub bind_failed : {A B : Type 0} (r : Noting A) (next : A → Noting B) (f : Fault) → (r >>= next) ≡ Err f
    → (r ≡ Err f) ⊎ ((x : A) × (r ≡ Ok x) × (next x ≡ Err f))
bind_failed (Ok x) next f h = inr (x, refl, h)
bind_failed {A} (Err g) next f h = inl (same_fault g f h)
  where
    same_fault : {B : Type 0} (g f : Fault) → ◌≡◌ {A = Noting B} (Err g) (Err f) → ◌≡◌ {A = Noting A} (Err g) (Err f)
    same_fault g f h = ap Err (same_Some g f (ap fault_of h))

-- two steps after one are one after two
pub in_turn : {A B C : Type 0} (r : Noting A) (f : A → Noting B) (g : B → Noting C)
    → ((r >>= f) >>= g) ≡ (r >>= λ x. f x >>= g)
in_turn (Ok x) f g = refl
in_turn (Err fault) f g = refl

pub check_tells : {A B : Type 0} (test : Bool) (cause : Why) (rest : Noting A) (next : A → Noting B)
    (cs : List Clause) → Tells (rest >>= next) cs → Tells (check test cause rest >>= next) (must test cause cs)
check_tells true cause rest next cs h = h
check_tells false cause rest next cs h = refl

pub known_tells : {A B : Type 0} (cause : Why) (o : Option A) (next : A → Noting B) (cs : A → List Clause)
    → ((x : A) → Tells (next x) (cs x)) → Tells (known_or cause o >>= next) (must_be cause o cs)
known_tells cause None next cs h = refl
known_tells cause (Some x) next cs h = h x

limit_tells : {A B : Type 0} (o : Option Limit) (rest : Noting A) (next : A → Noting B) (cs : List Clause)
    → Tells (rest >>= next) cs → Tells (unless_limit o rest >>= next) (must_lack limit o cs)
limit_tells None rest next cs h = h
limit_tells (Some passed) rest next cs h = refl

pub within_tells : {A B : Type 0} (types : List Meaning) (rest : Noting A) (next : A → Noting B)
    (cs : List Clause) → Tells (rest >>= next) cs → Tells (within types rest >>= next) (in_limits types cs)
within_tells types rest next cs h = limit_tells (limit_among types) rest next cs h

pub unless_tells : {A B X : Type 0} (cause : X → Why) (o : Option X) (rest : Noting A) (next : A → Noting B)
    (cs : List Clause) → Tells (rest >>= next) cs
    → Tells (unless_why cause o rest >>= next) (must_lack (λ x. why (cause x)) o cs)
unless_tells cause None rest next cs h = h
unless_tells cause (Some x) rest next cs h = refl

-- ---- notes

wanted_tells : {B : Type 0} (mode : Mode) (t : Meaning) (next : Note → Noting B) (cs : List Clause)
    → ((n : Note) → Tells (next n) cs) → Tells (wanted_note mode t >>= next) (as_wanted mode t cs)
wanted_tells None t next cs h = h (plain_note None t)
wanted_tells (Some wanted) t next cs h =
    check_tells (same wanted t) (different wanted t) (Ok (plain_note (Some wanted) t)) next cs
    (h (plain_note (Some wanted) t))

pub noted_tells : {B : Type 0} (mode : Mode) (t : Meaning) (next : Note → Noting B) (cs : List Clause)
    → ((n : Note) → Tells (next n) cs) → Tells (noted mode t >>= next) (has_type mode t cs)
noted_tells mode t next cs h =
    within_tells (types_noted mode t []) (wanted_note mode t) next (as_wanted mode t cs)
    (wanted_tells mode t next cs h)

-- a step that makes something of a note and tells nothing more
abbrev pub Silent : {A B : Type 0} → (A → Noting B) → Type 0
Silent {A} next = (x : A) → Tells (next x) []

pub literal_tells : {B : Type 0} (mode : Mode) (value : ℤ) (next : Note → Noting B) → Silent next
    → Tells (literal_note mode value >>= next) (of_literal mode value)
literal_tells mode value next quiet =
    let kind = literal_kind mode in
    let ranged = λ (n : Note). check (is_of_kind kind value) (shape (range_wanted kind)) (Ok n) in
    ap fault_of (in_turn (noted mode (mean.integer kind)) ranged next)
    ∙ noted_tells mode (mean.integer kind) (λ n. ranged n >>= next)
    (must (is_of_kind kind value) (shape (range_wanted kind)) [])
    (λ n. check_tells (is_of_kind kind value) (shape (range_wanted kind)) (Ok n) next [] (quiet n))

pub arithmetic_tells : {B : Type 0} (mode : Mode) (x y : NotedExpression) (next : Note → Noting B)
    → Silent next
    → Tells (of_one_type x y (arithmetic_note mode (type_of x)) >>= next) (of_arithmetic mode x y)
arithmetic_tells mode x y next quiet =
    let t = type_of x in
    check_tells (same t (type_of y)) (different t (type_of y)) (arithmetic_note mode t) next
    (in_limits (types_noted mode t []) (must (is_integer t) (shape integer_wanted) (as_wanted mode t [])))
    (within_tells (types_noted mode t []) (check (is_integer t) (shape integer_wanted) (wanted_note mode t)) next
    (must (is_integer t) (shape integer_wanted) (as_wanted mode t []))
    (check_tells (is_integer t) (shape integer_wanted) (wanted_note mode t) next (as_wanted mode t [])
    (wanted_tells mode t next [] quiet)))

pub comparison_tells : {B : Type 0} (op : BinaryOperator) (mode : Mode) (x y : NotedExpression)
    (next : Note → Noting B) → Silent next
    → Tells (comparison_note op mode x y >>= next) (of_comparison op mode x y)
comparison_tells op mode x y next quiet =
    let t = type_of x in
    let test = is_compared op t in
    let last = check test (shape integer_wanted) (wanted_note mode mean.truth) in
    let clauses = must test (shape integer_wanted) (as_wanted mode mean.truth []) in
    within_tells (types_noted mode mean.truth []) (of_one_type x y last) next
    (must (same t (type_of y)) (different t (type_of y)) clauses)
    (check_tells (same t (type_of y)) (different t (type_of y)) last next clauses
    (check_tells test (shape integer_wanted) (wanted_note mode mean.truth) next (as_wanted mode mean.truth [])
    (wanted_tells mode mean.truth next [] quiet)))

-- ---- borrows

pub borrow_tells : {B : Type 0} (m : BorrowMode) (mode : Mode) (t : Meaning) (next : Note → Noting B)
    → Silent next → Tells (borrowed m t >>= λ of. noted mode of >>= next) (of_borrow m mode t)
borrow_tells Read mode t next quiet = noted_tells mode (mean.reads t Anonymous) next [] quiet
borrow_tells Write mode t next quiet = noted_tells mode (mean.writes t Anonymous) next [] quiet
borrow_tells Reborrow mode (mean.writes target region) next quiet =
    noted_tells mode (mean.writes target Anonymous) next [] quiet
borrow_tells Reborrow mode t next quiet = refl

-- ---- parts

module _ (scope : Scope) where
  read_tells : {B : Type 0} (mode : Mode) (t : Meaning) (next : Note → Noting B) → Silent next
      → Tells (read_note scope mode t >>= next) (of_read scope mode t)
  read_tells mode t next quiet =
      within_tells (types_noted mode t []) (check (is_free_in scope t) (not_free t) (wanted_note mode t)) next
      (must (is_free_in scope t) (not_free t) (as_wanted mode t []))
      (check_tells (is_free_in scope t) (not_free t) (wanted_note mode t) next (as_wanted mode t [])
      (wanted_tells mode t next [] quiet))

  fields_tell : {B : Type 0} (t : Meaning) (fields : List (Placed Bytes)) (next : Meaning → Noting B)
      (cs : Meaning → List Clause) → ((u : Meaning) → Tells (next u) (cs u))
      → Tells (part_type scope t fields >>= next) (of_fields scope t fields cs)
  fields_tell t [] next cs h = h t
  fields_tell t (field ∷ fields) next cs h =
      ap fault_of (in_turn (known_or (unknown field.name) (field_type scope t field.name))
      (λ u. part_type scope u fields) next)
      ∙ known_tells (unknown field.name) (field_type scope t field.name) (λ u. part_type scope u fields >>= next)
      (λ u. of_fields scope u fields cs) (λ u. fields_tell u fields next cs h)

  pub part_tells : {B : Type 0} (t : Meaning) (fields : List (Placed Bytes)) (next : Meaning → Noting B)
      (cs : Meaning → List Clause) → ((u : Meaning) → Tells (next u) (cs u))
      → Tells (record_part scope t fields >>= next) (of_part scope t fields cs)
  part_tells t fields next cs h =
      check_tells (is_record scope t) (shape record_wanted) (part_type scope t fields) next
      (of_fields scope t fields cs) (fields_tell t fields next cs h)

  part_read_tells : {B : Type 0} (mode : Mode) (t : Meaning) (fields : List (Placed Bytes))
      (next : Note → Noting B) → Silent next
      → Tells (part_note scope mode t fields >>= next) (of_part scope t fields (of_read scope mode))
  part_read_tells mode t fields next quiet =
      ap fault_of (in_turn (record_part scope t fields) (read_note scope mode) next)
      ∙ part_tells t fields (λ u. read_note scope mode u >>= next) (of_read scope mode)
      (λ u. read_tells mode u next quiet)

  pub path_tells : {B : Type 0} (mode : Mode) (fields : List (Placed Bytes)) (t : Meaning)
      (next : Note → Noting B) → Silent next
      → Tells (path_note scope mode fields t >>= next) (of_path scope mode fields t)
  path_tells mode [] t next quiet = noted_tells mode t next [] quiet
  path_tells mode (field ∷ fields) t next quiet = part_read_tells mode t (field ∷ fields) next quiet

  pub arrow_tells : {B : Type 0} (mode : Mode) (fields : List (Placed Bytes)) (t : Meaning)
      (next : Note → Noting B) → Silent next
      → Tells (arrow_note scope mode fields t >>= next) (of_arrow scope mode fields t)
  arrow_tells mode fields t next quiet =
      ap fault_of (in_turn (known_or (shape reference_wanted) (target_behind t))
      (λ u. part_note scope mode u fields) next)
      ∙ known_tells (shape reference_wanted) (target_behind t) (λ u. part_note scope mode u fields >>= next)
      (λ u. of_part scope u fields (of_read scope mode)) (λ u. part_read_tells mode u fields next quiet)

  pub dereference_tells : {B : Type 0} (mode : Mode) (t : Meaning) (next : Note → Noting B) → Silent next
      → Tells (dereference_note scope mode t >>= next) (of_dereference scope mode t)
  dereference_tells mode t next quiet =
      ap fault_of (in_turn (known_or (shape reference_wanted) (target_behind t)) (read_note scope mode) next)
      ∙ known_tells (shape reference_wanted) (target_behind t) (λ u. read_note scope mode u >>= next)
      (of_read scope mode) (λ u. read_tells mode u next quiet)

  pub borrow_part_tells : {B : Type 0} (mode : Mode) (fields : List (Placed Bytes)) (t : Meaning)
      (next : Note → Noting B) → Silent next
      → Tells (borrow_part_note scope mode fields t >>= next) (of_borrowed_part scope mode fields t)
  borrow_part_tells mode fields (mean.reads target region) next quiet =
      ap fault_of (in_turn (record_part scope target fields) (λ u. noted mode (mean.reads u region)) next)
      ∙ part_tells target fields (λ u. noted mode (mean.reads u region) >>= next)
      (λ u. has_type mode (mean.reads u region) [])
      (λ u. noted_tells mode (mean.reads u region) next [] quiet)
  borrow_part_tells mode fields t next quiet = refl
