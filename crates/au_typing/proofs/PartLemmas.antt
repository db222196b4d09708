-- Whatever is good of a statement's own parts is found.
use Rattle.std.proofs.Common.{◌≡◌, true, false, not, List, [], ◌∷◌, refl, sym, ap, ◌∙◌}
use Rattle.std.specs.Prelude.{Option, Some, None, Ok, is_some, option_and_then}
use Rattle.au_syntax.specs.declared.expressions.BorrowMode.{BorrowMode}
use Rattle.au_syntax.specs.Names.{Placed}
use Rattle.au_syntax.specs.Plain.{Bytes}
use Rattle.au_syntax.specs.Statements.{no_branches, branches}
use Rattle.au_syntax.specs.Types.{Bound, WrittenType, named, reference}
use Rattle.au_types.specs.declared.types.Region.TheVariants as regions
use Rattle.au_types.specs.Same.{same}
use Rattle.au_types.specs.Types as mean
use Rattle.au_types.specs.Types.{Meaning}
use Rattle.au_judged_types.specs.Judging.{refers}
use Rattle.au_names.specs.declared.targets.Target.{Target}
use Rattle.au_typing.specs.Scopes.{Case, Scope, Typed, Variable}
use Rattle.au_typing.specs.Bare.{is_bare}
use Rattle.au_typing.specs.Faults.{◌>>=◌, check, known_or, unknown, different, not_free, shape, record_wanted}
use Rattle.au_typing.specs.Faults.{union_wanted, write_reference_wanted, integer_wanted, assignable_wanted}
use Rattle.au_typing.specs.Faults.{labels_wanted, arms_wanted}
use Rattle.au_typing.specs.Lookups.{IsPart, is_free_in, part_type, record_part, type_of_name, value_type, written_type}
use Rattle.au_typing.specs.Notes.{Mode, NotedExpression, erase, type_of}
use Rattle.au_typing.specs.Operands.{of_one_type, paired}
use Rattle.au_typing.specs.Rules.{is_integer}
use Rattle.au_typing.specs.Search.{note}
use Rattle.au_typing.proofs.Steps.{known_found}
use Rattle.au_typing.proofs.Found.{bare_kept, found}
use Rattle.au_typing.proofs.FoundParts.{paired_found, part_found}
use Rattle.au_typing.specs.Parts.{ArmHead, arms_fit, binds_each, borrow_type, case_meant, cases_told}
use Rattle.au_typing.specs.Parts.{is_borrowed_within, lent}
use Rattle.au_typing.specs.DerivationSearch.{free_place, is_of_borrow, judge_all_bound, judge_arm, judge_arms}
use Rattle.au_typing.specs.DerivationSearch.{judge_assigned, judge_binds, judge_borrow, judge_bound}
use Rattle.au_typing.specs.DerivationSearch.{judge_heads, judge_lent, judge_names, judge_put, judge_reference}
use Rattle.au_typing.specs.DerivationSearch.{judge_union, not_assignable, not_writing, note_assigned}
use Rattle.au_typing.specs.DerivationSearch.{note_bounds, note_case, note_declared, note_discarded, note_put}
use Rattle.au_typing.specs.DerivationSearch.{note_taken, note_tests, place_type, written_through}
use Rattle.au_typing.specs.Statements.{AreBound, GoodArm, GoodArms, GoodAssigned, GoodBorrow, GoodBounds}
use Rattle.au_typing.specs.Statements.{GoodBranches, GoodCase, GoodDeclared, GoodPut, GoodTaken, IsBound}
use Rattle.au_typing.specs.Statements.{IsLent, IsReference, Wants}
use Rattle.au_typing.specs.Trees.{NotedBranches, erase_branches}
use Rattle.au_typing.proofs.StepLemmas.{bind_from, check_from}

-- ---- parts of records

known_record : (step : List Typed → Option Meaning) (o : Option (List Typed)) (t : Meaning)
    → option_and_then step o ≡ Some t → is_some o ≡ true
known_record step None t e = absurd cc
known_record step (Some fields) t e = refl

pub place_found : (sc : Scope) (t : Meaning) (path : List (Placed Bytes)) (of : Meaning) → IsPart sc t path of
    → place_type sc t path ≡ Ok of
place_found sc t [] of g = ap Ok (sym g)
place_found sc t (field ∷ path) of g =
    check_from (shape record_wanted) (part_type sc t (field ∷ path))
    (known_record (type_of_name field.name) (sc.outside.fields t) g.0 g.1)
    (part_found sc t (field ∷ path) of g)

pub free_found : (sc : Scope) (t : Meaning) → is_free_in sc t ≡ true → free_place sc t ≡ Ok t
free_found sc t free = check_from (not_free t) (Ok t) free refl

-- ---- fields that are bound

bound_found : (sc : Scope) (fields : List Typed) (b : Bound Bytes) (g : IsBound sc fields b)
    → judge_bound sc fields b ≡ Ok g.of
bound_found sc fields b g =
    bind_from (λ field. written_type sc b.of >>= λ of. check (same field of) (different field of) (Ok of))
    (known_found (shape labels_wanted) g.has)
    (bind_from (λ of. check (same g.field of) (different g.field of) (Ok of)) g.formed
    (check_from (different g.field g.of) (Ok g.of) g.is_same refl))

all_bound_found : (sc : Scope) (fields : List Typed) (binds : List (Bound Bytes)) → AreBound sc fields binds
    → judge_all_bound sc fields binds ≡ Ok tt
all_bound_found sc fields [] g = refl
all_bound_found sc fields (b ∷ rest) g =
    bind_from (λ of. judge_all_bound sc fields rest) (bound_found sc fields b g.0)
    (all_bound_found sc fields rest g.1)

binds_found : (sc : Scope) (fields : List Typed) (binds : List (Bound Bytes)) → binds_each fields binds ≡ true
    → AreBound sc fields binds → judge_binds sc fields binds ≡ Ok tt
binds_found sc fields binds each g =
    check_from (shape labels_wanted) (judge_all_bound sc fields binds) each
    (all_bound_found sc fields binds g)

-- ---- the arms of a case

target_meant : (cases : List Case) (o : Option Target) (one : Case) → case_meant cases o ≡ Some one
    → (target : Target) × (o ≡ Some target)
target_meant cases None one e = absurd cc
target_meant cases (Some target) one e = (target, refl)

names_found : (sc : Scope) (cases : List Case) (heads : List ArmHead) → GoodArms sc cases heads
    → judge_names sc heads ≡ Ok tt
names_found sc cases [] g = refl
names_found sc cases (head ∷ rest) g =
    bind_from (λ target. judge_names sc rest)
    (known_found (unknown head.name) (target_meant cases (sc.outside.target head.name) g.0.one g.0.is_for).1)
    (names_found sc cases rest g.1)

arm_found : (sc : Scope) (cases : List Case) (head : ArmHead) → GoodArm sc cases head
    → judge_arm sc cases head ≡ Ok tt
arm_found sc cases head g =
    bind_from (λ (one : Case). judge_binds sc one.fields head.binds) (known_found
    (shape arms_wanted) g.is_for)
    (binds_found sc g.one.fields head.binds g.each g.bound)

arms_found : (sc : Scope) (cases : List Case) (heads : List ArmHead) → GoodArms sc cases heads
    → judge_arms sc cases heads ≡ Ok tt
arms_found sc cases [] g = refl
arms_found sc cases (head ∷ rest) g =
    bind_from (λ arm. judge_arms sc cases rest) (arm_found sc cases head g.0) (arms_found sc cases rest g.1)

heads_found : (sc : Scope) (cases : List Case) (heads : List ArmHead) → arms_fit sc cases heads ≡ true
    → GoodArms sc cases heads → judge_heads sc cases heads ≡ Ok tt
heads_found sc cases heads each g =
    bind_from (λ named. check (arms_fit sc cases heads) (shape arms_wanted) (judge_arms sc cases heads))
    (names_found sc cases heads g)
    (check_from (shape arms_wanted) (judge_arms sc cases heads) each (arms_found sc cases heads g))

union_found : (sc : Scope) (t : Meaning) (cases : List Case) → is_borrowed_within t ≡ false
    → cases_told sc t ≡ Some cases → judge_union sc t ≡ Ok cases
union_found sc t cases lasting known =
    check_from (shape union_wanted) (known_or (shape union_wanted) (cases_told sc t)) (ap not lasting)
    (known_found (shape union_wanted) known)

-- ---- borrows

pub lent_found : (sc : Scope) (mode : BorrowMode) (x : Bytes) (of : Meaning) → IsLent sc mode x of
    → judge_lent sc mode x ≡ Ok of
lent_found sc mode x of g =
    bind_from (λ (one : Variable). known_or (shape write_reference_wanted) (lent mode one.of))
    (known_found (unknown x) g.known)
    (known_found (shape write_reference_wanted) g.lends)

reference_found : (sc : Scope) (t : WrittenType) (region : Bytes) (of : Meaning) → IsReference sc t region of
    → judge_reference sc t ≡ Ok (region, of)
reference_found sc (named name args) region of g = absurd g
reference_found sc (reference at access target name) region of g =
    bind_from (λ to. Ok (name.name, refers access to (regions.Named name.name))) g.1
    (λ i. Ok (g.2 i, (sym g.3) i))

pub borrow_found : (sc : Scope) (t : WrittenType) (mode : BorrowMode) (x region : Bytes) (of : Meaning)
    → GoodBorrow sc t mode x region of → judge_borrow sc t mode x ≡ Ok (region, of)
borrow_found sc t mode x region of g =
    bind_from (λ lends. judge_reference sc t >>= λ y. is_of_borrow mode lends y)
    (lent_found sc mode x g.lends g.is_lent)
    (bind_from (λ y. is_of_borrow mode g.lends y) (reference_found sc t region of g.written)
    (check_from (different (borrow_type mode region g.lends) of) (Ok (region, of)) g.is_same refl))

-- ---- with the notes of expressions

-- the noted tests of a conditional
abbrev pub tests_of : NotedBranches → List NotedExpression
tests_of no_branches = []
tests_of (branches e block rest) = e ∷ tests_of rest

module _ (sc : Scope) where
  pub wants_found : (e : NotedExpression) (mode : Mode) → Wants sc e mode → note sc (erase e) mode ≡ Ok e
  wants_found e mode g = ap (note sc (erase e)) (sym g.1) ∙ found sc e g.0

  pub declared_found : (t : WrittenType) (e : NotedExpression) → GoodDeclared sc t e
      → note_declared sc t (erase e) ≡ Ok e
  declared_found t e g =
      bind_from (λ of. note sc (erase e) (Some of)) g.formed (wants_found e (Some g.of) g.wants)

  pub taken_found : (binds : List (Bound Bytes)) (e : NotedExpression) → GoodTaken sc binds e
      → note_taken sc binds (erase e) ≡ Ok e
  taken_found binds e g =
      bind_from
      (λ a. known_or (shape record_wanted) (sc.outside.fields (type_of a))
      >>= λ fields. judge_binds sc fields binds >>= λ bound. Ok a)
      (wants_found e None g.wants)
      (bind_from (λ fields. judge_binds sc fields binds >>= λ bound. Ok e)
      (known_found (shape record_wanted) g.known)
      (bind_from (λ bound. Ok e) (binds_found sc g.fields binds g.each g.bound) refl))

  pub assigned_found : (x : Bytes) (path : List (Placed Bytes)) (e : NotedExpression)
      → GoodAssigned sc x path e → note_assigned sc x path (erase e) ≡ Ok e
  assigned_found x path e g =
      bind_from (λ of. note sc (erase e) (Some of)) place (wants_found e (Some g.of) g.wants)
    where
      place : judge_assigned sc x path ≡ Ok g.of
      place =
          bind_from
          (λ (one : Variable). check one.assignable (shape assignable_wanted) (place_type sc one.of path)
          >>= λ of. free_place sc of)
          (known_found (not_assignable x (value_type sc x)) g.known)
          (bind_from (λ of. free_place sc of)
          (check_from (shape assignable_wanted) (place_type sc g.variable.of path) g.assignable
          (place_found sc g.variable.of path g.of g.part))
          (free_found sc g.of g.free))

  pub put_found : (r : Bytes) (path : List (Placed Bytes)) (e : NotedExpression) → GoodPut sc r path e
      → note_put sc r path (erase e) ≡ Ok e
  put_found r path e g =
      bind_from (λ of. note sc (erase e) (Some of)) place (wants_found e (Some g.of) g.wants)
    where
      place : judge_put sc r path ≡ Ok g.of
      place =
          bind_from
          (λ (one : Variable). known_or (shape write_reference_wanted) (written_through one.of)
          >>= λ to. record_part sc to path >>= λ of. free_place sc of)
          (known_found (not_writing r (value_type sc r)) g.known)
          (bind_from (λ to. record_part sc to path >>= λ of. free_place sc of)
          (known_found (shape write_reference_wanted) (ap written_through g.writes))
          (bind_from (λ of. free_place sc of)
          (check_from (shape record_wanted) (part_type sc g.to path) (ap is_some g.is_record)
          (part_found sc g.to path g.of g.part))
          (free_found sc g.of g.free)))

  pub case_found : (e : NotedExpression) (heads : List ArmHead) → GoodCase sc e heads
      → note_case sc (erase e) heads ≡ Ok e
  case_found e heads g =
      bind_from
      (λ a. judge_union sc (type_of a) >>= λ cases. judge_heads sc cases heads >>= λ judged. Ok a)
      (wants_found e None g.wants)
      (bind_from (λ cases. judge_heads sc cases heads >>= λ judged. Ok e)
      (union_found sc (type_of e) g.cases g.lasting g.known)
      (bind_from (λ judged. Ok e) (heads_found sc g.cases heads g.each g.good) refl))

  pub bounds_found : (a b : NotedExpression) → GoodBounds sc a b
      → note_bounds sc (erase a) (erase b) ≡ Ok (a, b)
  bounds_found a b g =
      bind_from (λ y. of_one_type y.0 y.1 (check (is_integer (type_of y.0)) (shape integer_wanted) (Ok y)))
      (ap (λ x. paired x (is_bare (erase b)) (note sc (erase a)) (note sc (erase b)) None) (bare_kept a)
      ∙ (ap (λ y. paired (is_bare a) y (note sc (erase a)) (note sc (erase b)) None) (bare_kept b)
      ∙ paired_found (is_bare a) (is_bare b) (note sc (erase a)) (note sc (erase b)) None a b
      (found sc a g.good_first) (found sc b g.good_last) g.paired.modes))
      (check_from (different (type_of a) (type_of b))
      (check (is_integer (type_of a)) (shape integer_wanted) (Ok (a, b))) g.paired.one_type
      (check_from (shape integer_wanted) (Ok (a, b)) g.integer refl))

  pub discarded_found : (e : NotedExpression) → Wants sc e None → is_free_in sc (type_of e) ≡ true
      → note_discarded sc (erase e) ≡ Ok e
  discarded_found e g free =
      bind_from (λ a. check (is_free_in sc (type_of a)) (not_free (type_of a)) (Ok a)) (wants_found e None g)
      (check_from (not_free (type_of e)) (Ok e) free refl)

  -- the tests of a conditional
  pub tests_found : (all : NotedBranches) → GoodBranches all sc
      → note_tests sc (erase_branches all) ≡ Ok (tests_of all)
  tests_found no_branches g = refl
  tests_found (branches e block rest) g =
      bind_from (λ a. note_tests sc (erase_branches rest) >>= λ tests. Ok (a ∷ tests))
      (wants_found e (Some mean.truth) g.0)
      (bind_from (λ tests. Ok (e ∷ tests)) (tests_found rest g.2) refl)
