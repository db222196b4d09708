-- Steps of the search over statements tell what the first clause tells that doesn't hold.
use Rattle.std.proofs.Common.{◌≡◌, ◌⊎◌, inl, inr, Bool, true, false, List, [], ◌∷◌, refl, sym, ap, subst, ◌∙◌}
use Rattle.std.proofs.Common.{Option, Some, None, Ok, Err, not, is_some}
use Rattle.au_syntax.specs.declared.expressions.BorrowMode.{BorrowMode}
use Rattle.au_syntax.specs.Names.{Placed}
use Rattle.au_syntax.specs.Plain.{Bytes}
use Rattle.au_syntax.specs.Types.{Bound, WrittenType, named, reference}
use Rattle.au_types.specs.declared.types.Region.{Region}
use Rattle.au_types.specs.declared.types.Region.TheVariants as regions
use Rattle.au_types.specs.Same.{same}
use Rattle.au_types.specs.Types as mean
use Rattle.au_types.specs.Types.{Meaning}
use Rattle.au_judged_types.specs.Judging.{refers}
use Rattle.au_judged_types.specs.Reasons.{Outcome, means, fails}
use Rattle.au_typing.specs.Scopes.{Case, Scope, Typed, Variable}
use Rattle.au_typing.specs.Faults.{Fault, Noting, ◌>>=◌, Why, why, check, known_or, reason_why, unknown}
use Rattle.au_typing.specs.Faults.{different, not_free, shape, record_wanted, union_wanted, reference_wanted}
use Rattle.au_typing.specs.Faults.{write_reference_wanted, integer_wanted, assignable_wanted, labels_wanted}
use Rattle.au_typing.specs.Faults.{arms_wanted}
use Rattle.au_typing.specs.Lookups.{IsPart, is_free_in, is_record, outcome_noted, part_type, record_part}
use Rattle.au_typing.specs.Lookups.{type_of_name, value_type, variable_of, written_means, written_type}
use Rattle.au_typing.specs.Notes.{NotedExpression, type_of}
use Rattle.au_typing.specs.Operands.{of_one_type}
use Rattle.au_typing.specs.Rules.{is_integer}
use Rattle.au_typing.specs.Parts.{ArmHead, arms_fit, binds_each, borrow_type, case_of_arm, cases_told}
use Rattle.au_typing.specs.Parts.{is_borrowed_within, lent}
use Rattle.au_typing.specs.DerivationSearch.{free_place, is_of_borrow, judge_all_bound, judge_arm, judge_arms}
use Rattle.au_typing.specs.DerivationSearch.{judge_assigned, judge_binds, judge_borrow, judge_bound}
use Rattle.au_typing.specs.DerivationSearch.{judge_heads, judge_lent, judge_names, judge_put, judge_reference}
use Rattle.au_typing.specs.DerivationSearch.{judge_union, not_assignable, not_writing, place_type}
use Rattle.au_typing.specs.DerivationSearch.{written_through}
use Rattle.au_laws.specs.Clauses.{Clause, broken, must, must_be}
use Rattle.au_laws.specs.NodeClauses as nodes
use Rattle.au_laws.specs.NodeClauses.{of_part}
use Rattle.au_laws.specs.StatementClauses.{formed, of_all_bound, of_arm, of_arms, of_assigned, of_binds}
use Rattle.au_laws.specs.StatementClauses.{of_borrow_into, of_bound, of_bounds, of_case, of_free, of_lent}
use Rattle.au_laws.specs.StatementClauses.{of_names, of_place, of_put, of_reference, of_taken}
use Rattle.au_laws.proofs.ClauseLemmas.{Silent, Tells, check_tells, fault_of, in_turn, known_tells, part_tells}

-- a step alone
pub alone : {A : Type 0} (r : Noting A) → fault_of r ≡ fault_of (r >>= λ x. Ok x)
alone (Ok x) = refl
alone (Err fault) = refl

pub formed_tells : {B : Type 0} (o : Outcome Meaning) (next : Meaning → Noting B) (cs : Meaning → List Clause)
    → ((t : Meaning) → Tells (next t) (cs t)) → Tells (outcome_noted o >>= next) (formed o cs)
formed_tells (means t) next cs h = h t
formed_tells (fails reason) next cs h = refl

module _ (sc : Scope) where
  -- ---- fields that are bound

  bound_tells : {B : Type 0} (fields : List Typed) (b : Bound Bytes) (next : Meaning → Noting B)
      (cs : List Clause) → ((t : Meaning) → Tells (next t) cs)
      → Tells (judge_bound sc fields b >>= next) (of_bound sc fields b cs)
  bound_tells fields b next cs h =
      let judged = λ (field of : Meaning). check (same field of) (different field of) (Ok of) in
      let field_of = known_or (shape labels_wanted) (type_of_name b.name.name.name fields) in
      ap fault_of (in_turn field_of (λ field. written_type sc b.of >>= judged field) next)
      ∙ known_tells (shape labels_wanted) (type_of_name b.name.name.name fields)
      (λ field. (written_type sc b.of >>= judged field) >>= next)
      (λ field. formed (written_means sc b.of) (λ of. must (same field of) (different field of) cs))
      (λ field. ap fault_of (in_turn (written_type sc b.of) (judged field) next)
      ∙ formed_tells (written_means sc b.of) (λ of. judged field of >>= next)
      (λ of. must (same field of) (different field of) cs)
      (λ of. check_tells (same field of) (different field of) (Ok of) next cs (h of)))

  all_bound_tell : {B : Type 0} (fields : List Typed) (binds : List (Bound Bytes)) (next : Unit {0} → Noting B)
      (cs : List Clause) → Tells (next tt) cs
      → Tells (judge_all_bound sc fields binds >>= next) (of_all_bound sc fields binds cs)
  all_bound_tell fields [] next cs h = h
  all_bound_tell fields (b ∷ rest) next cs h =
      ap fault_of (in_turn (judge_bound sc fields b) (λ of. judge_all_bound sc fields rest) next)
      ∙ bound_tells fields b (λ of. judge_all_bound sc fields rest >>= next) (of_all_bound sc fields rest cs)
      (λ of. all_bound_tell fields rest next cs h)

  pub binds_tell : {B : Type 0} (fields : List Typed) (binds : List (Bound Bytes)) (next : Unit {0} → Noting B)
      (cs : List Clause) → Tells (next tt) cs
      → Tells (judge_binds sc fields binds >>= next) (of_binds sc fields binds cs)
  binds_tell fields binds next cs h =
      check_tells (binds_each fields binds) (shape labels_wanted) (judge_all_bound sc fields binds) next
      (of_all_bound sc fields binds cs) (all_bound_tell fields binds next cs h)

  pub taken_tells : (binds : List (Bound Bytes)) (a : NotedExpression)
      → Tells
      (known_or (shape record_wanted) (sc.outside.fields (type_of a))
      >>= λ fields. judge_binds sc fields binds >>= λ bound. Ok a) (of_taken sc binds (type_of a))
  taken_tells binds a =
      known_tells (shape record_wanted) (sc.outside.fields (type_of a))
      (λ fields. judge_binds sc fields binds >>= λ bound. Ok a) (λ fields. of_binds sc fields binds [])
      (λ fields. binds_tell fields binds (λ bound. Ok a) [] refl)

  -- ---- places that are assigned to

  free_tells : (t : Meaning) → Tells (free_place sc t) (of_free sc t)
  free_tells t =
      alone (free_place sc t) ∙ check_tells (is_free_in sc t) (not_free t) (Ok t) (λ u. Ok u) [] refl

  place_tells : (t : Meaning) (path : List (Placed Bytes))
      → Tells (place_type sc t path >>= λ of. free_place sc of) (of_place sc t path)
  place_tells t [] = free_tells t
  place_tells t (field ∷ fields) =
      part_tells sc t (field ∷ fields) (λ of. free_place sc of) (of_free sc) free_tells

  pub assigned_tells : (x : Bytes) (path : List (Placed Bytes))
      → Tells (judge_assigned sc x path) (of_assigned sc x path)
  assigned_tells x path =
      known_tells (not_assignable x (value_type sc x)) (variable_of sc x)
      (λ (one : Variable). check one.assignable (shape assignable_wanted) (place_type sc one.of path)
      >>= λ of. free_place sc of)
      (λ (one : Variable). must one.assignable (shape assignable_wanted) (of_place sc one.of path))
      (λ one. check_tells one.assignable (shape assignable_wanted) (place_type sc one.of path)
      (λ of. free_place sc of) (of_place sc one.of path) (place_tells one.of path))

  pub put_tells : (r : Bytes) (path : List (Placed Bytes)) → Tells (judge_put sc r path) (of_put sc r path)
  put_tells r path =
      known_tells (not_writing r (value_type sc r)) (variable_of sc r)
      (λ (one : Variable). known_or (shape write_reference_wanted) (written_through one.of)
      >>= λ to. record_part sc to path >>= λ of. free_place sc of)
      (λ (one : Variable). must_be (shape write_reference_wanted) (written_through one.of)
      (λ to. of_part sc to path (of_free sc)))
      (λ one. known_tells (shape write_reference_wanted) (written_through one.of)
      (λ to. record_part sc to path >>= λ of. free_place sc of) (λ to. of_part sc to path (of_free sc))
      (λ to. part_tells sc to path (λ of. free_place sc of) (of_free sc) free_tells))

  pub result_tells : (a : NotedExpression)
      → Tells (check (is_free_in sc (type_of a)) (not_free (type_of a)) (Ok a)) (of_free sc (type_of a))
  result_tells a =
      let last : Noting NotedExpression = check (is_free_in sc (type_of a)) (not_free (type_of a)) (Ok a) in
      alone last ∙ check_tells (is_free_in sc (type_of a)) (not_free (type_of a)) (Ok a) (λ u. Ok u) [] refl

  -- ---- `case`

  names_tell : {B : Type 0} (heads : List ArmHead) (next : Unit {0} → Noting B) (cs : List Clause)
      → Tells (next tt) cs → Tells (judge_names sc heads >>= next) (of_names sc heads cs)
  names_tell [] next cs h = h
  names_tell (head ∷ rest) next cs h =
      ap fault_of (in_turn (known_or (unknown head.name) (sc.outside.target head.name))
      (λ target. judge_names sc rest) next)
      ∙ known_tells (unknown head.name) (sc.outside.target head.name) (λ target. judge_names sc rest >>= next)
      (λ target. of_names sc rest cs) (λ target. names_tell rest next cs h)

  arm_tells : {B : Type 0} (cases : List Case) (head : ArmHead) (next : Unit {0} → Noting B) (cs : List Clause)
      → Tells (next tt) cs → Tells (judge_arm sc cases head >>= next) (of_arm sc cases head cs)
  arm_tells cases head next cs h =
      ap fault_of (in_turn (known_or (shape arms_wanted) (case_of_arm sc cases head))
      (λ (one : Case). judge_binds sc one.fields head.binds) next)
      ∙ known_tells (shape arms_wanted) (case_of_arm sc cases head)
      (λ (one : Case). judge_binds sc one.fields head.binds >>= next)
      (λ (one : Case). of_binds sc one.fields head.binds cs)
      (λ one. binds_tell one.fields head.binds next cs h)

  arms_tell : {B : Type 0} (cases : List Case) (heads : List ArmHead) (next : Unit {0} → Noting B)
      → Tells (next tt) [] → Tells (judge_arms sc cases heads >>= next) (of_arms sc cases heads)
  arms_tell cases [] next h = h
  arms_tell cases (head ∷ rest) next h =
      ap fault_of (in_turn (judge_arm sc cases head) (λ arm. judge_arms sc cases rest) next)
      ∙ arm_tells cases head (λ arm. judge_arms sc cases rest >>= next) (of_arms sc cases rest)
      (arms_tell cases rest next h)

  heads_tell : {B : Type 0} (cases : List Case) (heads : List ArmHead) (next : Unit {0} → Noting B)
      → Tells (next tt) []
      → Tells (judge_heads sc cases heads >>= next)
      (of_names sc heads (must (arms_fit sc cases heads) (shape arms_wanted) (of_arms sc cases heads)))
  heads_tell cases heads next h =
      let fit = λ (named : Unit {0}).
      check (arms_fit sc cases heads) (shape arms_wanted) (judge_arms sc cases heads) in
      ap fault_of (in_turn (judge_names sc heads) fit next)
      ∙ names_tell heads (λ named. fit named >>= next)
      (must (arms_fit sc cases heads) (shape arms_wanted) (of_arms sc cases heads))
      (check_tells (arms_fit sc cases heads) (shape arms_wanted) (judge_arms sc cases heads) next
      (of_arms sc cases heads) (arms_tell cases heads next h))

  pub case_tells : (heads : List ArmHead) (a : NotedExpression)
      → Tells (judge_union sc (type_of a) >>= λ cases. judge_heads sc cases heads >>= λ judged. Ok a)
      (of_case sc heads (type_of a))
  case_tells heads a =
      let t = type_of a in
      let clauses = λ (cases : List Case).
      of_names sc heads (must (arms_fit sc cases heads) (shape arms_wanted) (of_arms sc cases heads)) in
      let next = λ (cases : List Case). judge_heads sc cases heads >>= λ (judged : Unit {0}). Ok a in
      check_tells (not (is_borrowed_within t)) (shape union_wanted)
      (known_or (shape union_wanted) (cases_told sc t)) next
      (must_be (shape union_wanted) (cases_told sc t) clauses)
      (known_tells (shape union_wanted) (cases_told sc t) next clauses
      (λ cases. heads_tell cases heads (λ judged. Ok a) refl))

  -- ---- loops and borrows

  pub bounds_tell : (z : NotedExpression × NotedExpression)
      → Tells (of_one_type z.0 z.1 (check (is_integer (type_of z.0)) (shape integer_wanted) (Ok z)))
      (of_bounds z.0 z.1)
  bounds_tell z =
      let t = type_of z.0 in
      let last : Noting (NotedExpression × NotedExpression) = check (is_integer t) (shape integer_wanted) (Ok z) in
      alone (of_one_type z.0 z.1 last)
      ∙ check_tells (same t (type_of z.1)) (different t (type_of z.1)) last (λ y. Ok y)
      (must (is_integer t) (shape integer_wanted) [])
      (check_tells (is_integer t) (shape integer_wanted) (Ok z) (λ y. Ok y) [] refl)

  lent_tells : {B : Type 0} (mode : BorrowMode) (x : Bytes) (next : Meaning → Noting B)
      (cs : Meaning → List Clause) → ((t : Meaning) → Tells (next t) (cs t))
      → Tells (judge_lent sc mode x >>= next) (of_lent sc mode x cs)
  lent_tells mode x next cs h =
      ap fault_of (in_turn (known_or (unknown x) (variable_of sc x))
      (λ (one : Variable). known_or (shape write_reference_wanted) (lent mode one.of)) next)
      ∙ known_tells (unknown x) (variable_of sc x)
      (λ (one : Variable). known_or (shape write_reference_wanted) (lent mode one.of) >>= next)
      (λ (one : Variable). must_be (shape write_reference_wanted) (lent mode one.of) cs)
      (λ one. known_tells (shape write_reference_wanted) (lent mode one.of) next cs h)

  pub only_lent_tells : (mode : BorrowMode) (x : Bytes)
      → Tells (judge_lent sc mode x) (of_lent sc mode x (λ of. []))
  only_lent_tells mode x =
      alone (judge_lent sc mode x) ∙ lent_tells mode x (λ t. Ok t) (λ of. []) (λ t. refl)

  reference_tells : {B : Type 0} (t : WrittenType) (next : Bytes × Meaning → Noting B)
      (cs : Bytes → Meaning → List Clause) → ((name : Bytes) (of : Meaning) → Tells (next (name, of)) (cs name of))
      → Tells (judge_reference sc t >>= next) (of_reference sc t cs)
  reference_tells (reference at access target name) next cs h =
      let made : Meaning → Bytes × Meaning = λ to. (name.name, refers access to (regions.Named name.name)) in
      ap fault_of (in_turn (written_type sc target) (λ to. Ok (made to)) next)
      ∙ formed_tells (written_means sc target) (λ to. next (made to))
      (λ to. cs name.name (refers access to (regions.Named name.name)))
      (λ to. h name.name (refers access to (regions.Named name.name)))
  reference_tells (named name args) next cs h =
      ap fault_of (in_turn (written_type sc (named name args)) (λ of. Err (why (shape reference_wanted))) next)
      ∙ formed_tells (written_means sc (named name args)) (λ of. Err (why (shape reference_wanted)) >>= next)
      (λ of. broken (why (shape reference_wanted))) (λ of. refl)

  pub borrow_tells : (t : WrittenType) (mode : BorrowMode) (x : Bytes)
      → Tells (judge_borrow sc t mode x) (of_borrow_into sc t mode x)
  borrow_tells t mode x =
      lent_tells mode x (λ lends. judge_reference sc t >>= λ y. is_of_borrow mode lends y)
      (λ lends. of_reference sc t (λ region of.
      must (same (borrow_type mode region lends) of) (different (borrow_type mode region lends) of) []))
      (λ lends. reference_tells t (λ y. is_of_borrow mode lends y)
      (λ region of.
      must (same (borrow_type mode region lends) of) (different (borrow_type mode region lends) of) [])
      (λ region of. alone (is_of_borrow mode lends (region, of))
      ∙ check_tells (same (borrow_type mode region lends) of) (different (borrow_type mode region lends) of)
      (Ok (region, of)) (λ y. Ok y) [] refl))
