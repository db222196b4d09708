-- Whatever is found of a statement's own parts is good.
use Rattle.std.proofs.Common.{◌≡◌, true, false, not, List, [], ◌∷◌, sym, ap, subst, ◌∙◌}
use Rattle.std.specs.Prelude.{Some, None, Ok, Err}
use Rattle.std.proofs.lemmas.Bool.{not-true}
use Rattle.au_base.proofs.OptionLemmas.{some_of}
use Rattle.au_syntax.specs.declared.expressions.BorrowMode.{BorrowMode}
use Rattle.au_syntax.specs.Names.{Placed}
use Rattle.au_syntax.specs.Plain.{Bytes, PlainExpression}
use Rattle.au_syntax.specs.Types.{Bound, WrittenType, named, reference}
use Rattle.au_types.specs.declared.types.Region.{Region}
use Rattle.au_types.specs.declared.types.Region.TheVariants as regions
use Rattle.au_types.specs.Same.{same}
use Rattle.au_types.specs.Types as mean
use Rattle.au_types.specs.Types.{Meaning}
use Rattle.au_judged_types.specs.Judging.{refers}
use Rattle.au_typing.specs.Scopes.{Case, Scope, Typed, Variable}
use Rattle.au_typing.specs.Bare.{is_bare}
use Rattle.au_typing.specs.Faults.{Noting, ◌>>=◌, check, known_or, why, unknown, different, not_free, shape}
use Rattle.au_typing.specs.Faults.{record_wanted, union_wanted, reference_wanted, write_reference_wanted}
use Rattle.au_typing.specs.Faults.{integer_wanted, assignable_wanted, labels_wanted, arms_wanted}
use Rattle.au_typing.specs.Good.{PairedModes}
use Rattle.au_typing.specs.Lookups.{IsPart, field_type, is_free_in, is_record, part_type, record_part}
use Rattle.au_typing.specs.Lookups.{type_of_name, value_type, variable_of, written_type}
use Rattle.au_typing.specs.Notes.{Mode, NotedExpression, erase, note_of, type_of}
use Rattle.au_typing.specs.Operands.{of_one_type, paired}
use Rattle.au_typing.specs.Rules.{is_integer}
use Rattle.au_typing.specs.Search.{note}
use Rattle.au_typing.proofs.Steps.{bind_ok, check_ok, known_ok, ok_same}
use Rattle.au_typing.proofs.Found.{bare_kept}
use Rattle.au_typing.proofs.Sound.{sound}
use Rattle.au_typing.proofs.SoundParts.{paired_sound}
use Rattle.au_typing.specs.Parts.{ArmHead, arms_fit, binds_each, borrow_type, case_of_arm, cases_told}
use Rattle.au_typing.specs.Parts.{is_borrowed_within, lent}
use Rattle.au_typing.specs.DerivationSearch.{free_place, is_of_borrow, judge_all_bound, judge_arm, judge_arms}
use Rattle.au_typing.specs.DerivationSearch.{judge_assigned, judge_binds, judge_borrow, judge_bound}
use Rattle.au_typing.specs.DerivationSearch.{judge_heads, judge_lent, judge_names, judge_put, judge_reference}
use Rattle.au_typing.specs.DerivationSearch.{judge_union, not_assignable, not_writing, note_assigned}
use Rattle.au_typing.specs.DerivationSearch.{note_bounds, note_case, note_declared, note_discarded, note_put}
use Rattle.au_typing.specs.DerivationSearch.{note_taken, place_type, written_through}
use Rattle.au_typing.specs.Statements.{AreBound, GoodArm, GoodArms, GoodAssigned, GoodBorrow, GoodBounds}
use Rattle.au_typing.specs.Statements.{GoodCase, GoodDeclared, GoodPut, GoodTaken, IsBound, IsLent}
use Rattle.au_typing.specs.Statements.{IsReference, Wants}

-- ---- parts of records

pub part_sound : (sc : Scope) (t : Meaning) (path : List (Placed Bytes)) (of : Meaning)
    → part_type sc t path ≡ Ok of
    → IsPart sc t path of
part_sound sc t [] of e = sym (ok_same t of e)
part_sound sc t (field ∷ path) of e =
    let step = bind_ok (known_or (unknown field.name) (field_type sc t field.name))
    (λ next. part_type sc next path) of e in (
      step.0,
      known_ok (unknown field.name) (field_type sc t field.name) step.0 step.1,
      part_sound sc step.0 path of step.2,
    )

pub place_sound : (sc : Scope) (t : Meaning) (path : List (Placed Bytes)) (of : Meaning)
    → place_type sc t path ≡ Ok of
    → IsPart sc t path of
place_sound sc t [] of e = sym (ok_same t of e)
place_sound sc t (field ∷ path) of e =
    part_sound sc t (field ∷ path) of
    (check_ok (is_record sc t) (shape record_wanted) (part_type sc t (field ∷ path)) of e).1

pub free_sound : (sc : Scope) (t of : Meaning) → free_place sc t ≡ Ok of → (is_free_in sc of ≡ true)
    × (t ≡ of)
free_sound sc t of e =
    let step = check_ok (is_free_in sc t) (not_free t) (Ok t) of e in
    let is : t ≡ of = ok_same t of step.1 in
    (subst (λ u. is_free_in sc u ≡ true) is step.0, is)

-- ---- fields that are bound

bound_sound : (sc : Scope) (fields : List Typed) (b : Bound Bytes) (of : Meaning)
    → judge_bound sc fields b ≡ Ok of
    → IsBound sc fields b
bound_sound sc fields b of e =
    let has = bind_ok (known_or (shape labels_wanted) (type_of_name b.name.name.name fields))
    (λ field. written_type sc b.of >>= λ t. check (same field t) (different field t) (Ok t)) of e in
    let formed = bind_ok (written_type sc b.of)
    (λ t. check (same has.0 t) (different has.0 t) (Ok t)) of has.2 in
    record {
      field = has.0;
      has = known_ok (shape labels_wanted) (type_of_name b.name.name.name fields) has.0 has.1;
      of = formed.0;
      formed = formed.1;
      is_same = (check_ok (same has.0 formed.0) (different has.0 formed.0) (Ok formed.0) of formed.2).0;
    }

all_bound_sound : (sc : Scope) (fields : List Typed) (binds : List (Bound Bytes))
    → judge_all_bound sc fields binds ≡ Ok tt → AreBound sc fields binds
all_bound_sound sc fields [] e = tt
all_bound_sound sc fields (b ∷ rest) e =
    let step = bind_ok (judge_bound sc fields b) (λ of. judge_all_bound sc fields rest) tt e in
    (bound_sound sc fields b step.0 step.1, all_bound_sound sc fields rest step.2)

binds_sound : (sc : Scope) (fields : List Typed) (binds : List (Bound Bytes))
    → judge_binds sc fields binds ≡ Ok tt
    → (binds_each fields binds ≡ true) × AreBound sc fields binds
binds_sound sc fields binds e =
    let step = check_ok (binds_each fields binds) (shape labels_wanted)
    (judge_all_bound sc fields binds) tt e in
    (step.0, all_bound_sound sc fields binds step.1)

-- ---- the arms of a case

arm_sound : (sc : Scope) (cases : List Case) (head : ArmHead) → judge_arm sc cases head ≡ Ok tt
    → GoodArm sc cases head
arm_sound sc cases head e =
    let step = bind_ok (known_or (shape arms_wanted) (case_of_arm sc cases head))
    (λ (one : Case). judge_binds sc one.fields head.binds) tt e in
    let bound = binds_sound sc (step.0).fields head.binds step.2 in
    record {
      one = step.0;
      is_for = known_ok (shape arms_wanted) (case_of_arm sc cases head) step.0 step.1;
      each = bound.0;
      bound = bound.1;
    }

arms_sound : (sc : Scope) (cases : List Case) (heads : List ArmHead) → judge_arms sc cases heads ≡ Ok tt
    → GoodArms sc cases heads
arms_sound sc cases [] e = tt
arms_sound sc cases (head ∷ rest) e =
    let step = bind_ok (judge_arm sc cases head) (λ arm. judge_arms sc cases rest) tt e in
    (arm_sound sc cases head step.1, arms_sound sc cases rest step.2)

heads_sound : (sc : Scope) (cases : List Case) (heads : List ArmHead) → judge_heads sc cases heads ≡ Ok tt
    → (arms_fit sc cases heads ≡ true) × GoodArms sc cases heads
heads_sound sc cases heads e =
    let named = bind_ok (judge_names sc heads)
    (λ z. check (arms_fit sc cases heads) (shape arms_wanted) (judge_arms sc cases heads)) tt e in
    let step = check_ok (arms_fit sc cases heads) (shape arms_wanted)
    (judge_arms sc cases heads) tt named.2 in
    (step.0, arms_sound sc cases heads step.1)

union_sound : (sc : Scope) (t : Meaning) (cases : List Case) → judge_union sc t ≡ Ok cases
    → (is_borrowed_within t ≡ false) × (cases_told sc t ≡ Some cases)
union_sound sc t cases e =
    let step = check_ok (not (is_borrowed_within t)) (shape union_wanted)
    (known_or (shape union_wanted) (cases_told sc t)) cases e in (
      not-true (is_borrowed_within t) step.0,
      known_ok (shape union_wanted) (cases_told sc t) cases step.1,
    )

-- ---- borrows

pub lent_sound : (sc : Scope) (mode : BorrowMode) (x : Bytes) (of : Meaning) → judge_lent sc mode x ≡ Ok of
    → IsLent sc mode x of
lent_sound sc mode x of e =
    let step = bind_ok (known_or (unknown x) (variable_of sc x))
    (λ (one : Variable). known_or (shape write_reference_wanted) (lent mode one.of)) of e in
    record {
      variable = step.0;
      known = known_ok (unknown x) (variable_of sc x) step.0 step.1;
      lends = known_ok (shape write_reference_wanted) (lent mode (step.0).of) of step.2;
    }

reference_sound : (sc : Scope) (t : WrittenType) (region : Bytes) (of : Meaning)
    → judge_reference sc t ≡ Ok (region, of) → IsReference sc t region of
reference_sound sc (named name args) region of e =
    let step = bind_ok (written_type sc (named name args)) (λ z. Err (why (shape reference_wanted)))
    (region, of) e in absurd (no_error step.2)
  where
    no_error : ◌≡◌ {A = Noting (Bytes × Meaning)} (Err (why (shape reference_wanted))) (Ok (region, of)) → ⊥
    no_error h = cc
reference_sound sc (reference at access target name) region of e =
    let step = bind_ok (written_type sc target)
    (λ to. Ok (name.name, refers access to (regions.Named name.name))) (region, of) e in
    let is : (name.name, refers access step.0 (regions.Named name.name)) ≡ (region, of) =
    ok_same (name.name, refers access step.0 (regions.Named name.name)) (region, of) step.2 in
    (step.0, step.1, ap (λ (y : Bytes × Meaning). y.0) is, sym (ap (λ (y : Bytes × Meaning). y.1) is))

pub borrow_sound : (sc : Scope) (t : WrittenType) (mode : BorrowMode) (x : Bytes) (y : Bytes × Meaning)
    → judge_borrow sc t mode x ≡ Ok y → GoodBorrow sc t mode x y.0 y.1
borrow_sound sc t mode x y e =
    let lends = bind_ok (judge_lent sc mode x)
    (λ of. judge_reference sc t >>= λ z. is_of_borrow mode of z) y e in
    let reads = bind_ok (judge_reference sc t) (λ z. is_of_borrow mode lends.0 z) y lends.2 in
    let z : Bytes × Meaning = reads.0 in
    let step = check_ok (same (borrow_type mode z.0 lends.0) z.1)
    (different (borrow_type mode z.0 lends.0) z.1) (Ok z) y reads.2 in
    let is : z ≡ y = ok_same z y step.1 in
    let good : GoodBorrow sc t mode x z.0 z.1 = record {
      lends = lends.0;
      is_lent = lent_sound sc mode x lends.0 lends.1;
      written = reference_sound sc t z.0 z.1 reads.1;
      is_same = step.0;
    } in
    subst (λ (w : Bytes × Meaning). GoodBorrow sc t mode x w.0 w.1) is good

-- ---- with the notes of expressions

module _ (sc : Scope) where
  pub wants_sound : (e : PlainExpression) (mode : Mode) (a : NotedExpression) → note sc e mode ≡ Ok a
      → Wants sc a mode × (erase a ≡ e)
  wants_sound e mode a h = let is = sound sc e mode a h in ((is.0, is.1), is.2)

  pub declared_sound : (t : WrittenType) (e : PlainExpression) (a : NotedExpression)
      → note_declared sc t e ≡ Ok a → GoodDeclared sc t a × (erase a ≡ e)
  declared_sound t e a h =
      let step = bind_ok (written_type sc t) (λ of. note sc e (Some of)) a h in
      let is = wants_sound e (Some step.0) a step.2 in
      (record { of = step.0; formed = step.1; wants = is.0 }, is.1)

  pub taken_sound : (binds : List (Bound Bytes)) (e : PlainExpression) (a : NotedExpression)
      → note_taken sc binds e ≡ Ok a → GoodTaken sc binds a × (erase a ≡ e)
  taken_sound binds e a h =
      let noted = bind_ok (note sc e None)
      (λ b. known_or (shape record_wanted) (sc.outside.fields (type_of b))
      >>= λ fields. judge_binds sc fields binds >>= λ bound. Ok b) a h in
      let b : NotedExpression = noted.0 in
      let known = bind_ok (known_or (shape record_wanted) (sc.outside.fields (type_of b)))
      (λ fields. judge_binds sc fields binds >>= λ bound. Ok b) a noted.2 in
      let bound = bind_ok (judge_binds sc known.0 binds) (λ z. Ok b) a known.2 in
      let each = binds_sound sc known.0 binds (judged known.0 bound.0 bound.1) in
      let is : b ≡ a = ok_same b a bound.2 in
      let wants = wants_sound e None b noted.1 in
      let good : GoodTaken sc binds b × (erase b ≡ e) = (
        record {
          wants = wants.0;
          fields = known.0;
          known = known_ok (shape record_wanted) (sc.outside.fields (type_of b)) known.0 known.1;
          each = each.0;
          bound = each.1;
        },
        wants.1,
      ) in
      subst (λ c. GoodTaken sc binds c × (erase c ≡ e)) is good
    where
      judged : (fields : List Typed) (z : Unit {0}) → judge_binds sc fields binds ≡ Ok z
          → judge_binds sc fields binds ≡ Ok tt
      judged fields z p = p

  pub assigned_sound : (x : Bytes) (path : List (Placed Bytes)) (e : PlainExpression) (a : NotedExpression)
      → note_assigned sc x path e ≡ Ok a → GoodAssigned sc x path a × (erase a ≡ e)
  assigned_sound x path e a h =
      let place = bind_ok (judge_assigned sc x path) (λ of. note sc e (Some of)) a h in
      let known = bind_ok (known_or (not_assignable x (value_type sc x)) (variable_of sc x))
      (λ (one : Variable). check one.assignable (shape assignable_wanted) (place_type sc one.of path)
      >>= λ of. free_place sc of) place.0 place.1 in
      let one : Variable = known.0 in
      let part = bind_ok (check one.assignable (shape assignable_wanted) (place_type sc one.of path))
      (λ of. free_place sc of) place.0 known.2 in
      let test = check_ok one.assignable (shape assignable_wanted)
      (place_type sc one.of path) part.0 part.1 in
      let free = free_sound sc part.0 place.0 part.2 in
      let wants = wants_sound e (Some place.0) a place.2 in (
        record {
          variable = one;
          known = known_ok (not_assignable x (value_type sc x)) (variable_of sc x) one known.1;
          assignable = test.0;
          of = place.0;
          part = subst (IsPart sc one.of path) free.1 (place_sound sc one.of path part.0 test.1);
          free = free.0;
          wants = wants.0;
        },
        wants.1,
      )

  pub put_sound : (r : Bytes) (path : List (Placed Bytes)) (e : PlainExpression) (a : NotedExpression)
      → note_put sc r path e ≡ Ok a → GoodPut sc r path a × (erase a ≡ e)
  put_sound r path e a h =
      let place = bind_ok (judge_put sc r path) (λ of. note sc e (Some of)) a h in
      let known = bind_ok (known_or (not_writing r (value_type sc r)) (variable_of sc r))
      (λ (one : Variable). known_or (shape write_reference_wanted) (written_through one.of)
      >>= λ to. record_part sc to path >>= λ of. free_place sc of) place.0 place.1 in
      let one : Variable = known.0 in
      let writes = bind_ok (known_or (shape write_reference_wanted) (written_through one.of))
      (λ to. record_part sc to path >>= λ of. free_place sc of) place.0 known.2 in
      let to : Meaning = writes.0 in
      let part = bind_ok (record_part sc to path) (λ of. free_place sc of) place.0 writes.2 in
      let test = check_ok (is_record sc to) (shape record_wanted) (part_type sc to path) part.0 part.1 in
      let free = free_sound sc part.0 place.0 part.2 in
      let wants = wants_sound e (Some place.0) a place.2 in
      let behind = writes_to one.of to
      (known_ok (shape write_reference_wanted) (written_through one.of) to writes.1) in
      let fields = some_of (sc.outside.fields to) test.0 in (
        record {
          variable = one;
          known = known_ok (not_writing r (value_type sc r)) (variable_of sc r) one known.1;
          to = to;
          region = behind.0;
          writes = behind.1;
          fields = fields.0;
          is_record = fields.1;
          of = place.0;
          part = subst (IsPart sc to path) free.1 (part_sound sc to path part.0 test.1);
          free = free.0;
          wants = wants.0;
        },
        wants.1,
      )
    where
      same_some : (t u : Meaning) → Some t ≡ Some u → t ≡ u
      same_some t u p = cc

      writes_to : (t to : Meaning) → written_through t ≡ Some to → (region : Region) ×
          (t ≡ mean.writes to region)
      writes_to (mean.writes t region) to p = (region, ap (λ u. mean.writes u region) (same_some t to p))
      writes_to t to p = absurd cc

  pub case_sound : (heads : List ArmHead) (e : PlainExpression) (a : NotedExpression)
      → note_case sc e heads ≡ Ok a → GoodCase sc a heads × (erase a ≡ e)
  case_sound heads e a h =
      let noted = bind_ok (note sc e None)
      (λ b. judge_union sc (type_of b) >>= λ cases. judge_heads sc cases heads >>= λ judged. Ok b) a h in
      let b : NotedExpression = noted.0 in
      let known = bind_ok (judge_union sc (type_of b))
      (λ cases. judge_heads sc cases heads >>= λ judged. Ok b) a noted.2 in
      let union = union_sound sc (type_of b) known.0 known.1 in
      let judged = bind_ok (judge_heads sc known.0 heads) (λ z. Ok b) a known.2 in
      let each = heads_sound sc known.0 heads judged.1 in
      let is : b ≡ a = ok_same b a judged.2 in
      let wants = wants_sound e None b noted.1 in
      let good : GoodCase sc b heads × (erase b ≡ e) = (
        record {
          wants = wants.0;
          lasting = union.0;
          cases = known.0;
          known = union.1;
          each = each.0;
          good = each.1;
        },
        wants.1,
      ) in
      subst (λ c. GoodCase sc c heads × (erase c ≡ e)) is good

  pub bounds_sound : (e d : PlainExpression) (z : NotedExpression × NotedExpression)
      → note_bounds sc e d ≡ Ok z → GoodBounds sc z.0 z.1 × (erase z.0 ≡ e) × (erase z.1 ≡ d)
  bounds_sound e d z h =
      let both = bind_ok (paired (is_bare e) (is_bare d) (note sc e) (note sc d) None)
      (λ y. of_one_type y.0 y.1 (check (is_integer (type_of y.0)) (shape integer_wanted) (Ok y))) z h in
      let y : NotedExpression × NotedExpression = both.0 in
      let one = check_ok (same (type_of y.0) (type_of y.1)) (different (type_of y.0) (type_of y.1))
      (check (is_integer (type_of y.0)) (shape integer_wanted) (Ok y)) z both.2 in
      let whole = check_ok (is_integer (type_of y.0)) (shape integer_wanted) (Ok y) z one.1 in
      let is : y ≡ z = ok_same y z whole.1 in
      let found = paired_sound sc (is_bare e) (is_bare d) (note sc e) (note sc d) e d None y (sound sc e)
      (sound sc d) both.1 in
      let e_bare : is_bare e ≡ is_bare y.0 = ap is_bare (sym found.2) ∙ bare_kept y.0 in
      let d_bare : is_bare d ≡ is_bare y.1 = ap is_bare (sym found.3) ∙ bare_kept y.1 in
      let modes : PairedModes (is_bare y.0) (is_bare y.1) None (note_of y.0) (note_of y.1) =
      subst (λ b. PairedModes (is_bare y.0) b None (note_of y.0) (note_of y.1)) d_bare
      (subst (λ b. PairedModes b (is_bare d) None (note_of y.0) (note_of y.1)) e_bare found.4) in
      let good : GoodBounds sc y.0 y.1 × (erase y.0 ≡ e) × (erase y.1 ≡ d) = (
        record {
          good_first = found.0;
          good_last = found.1;
          paired = record { modes = modes; one_type = one.0 };
          integer = whole.0;
        },
        found.2,
        found.3,
      ) in
      subst (λ (w : NotedExpression × NotedExpression). GoodBounds sc w.0 w.1 × (erase w.0 ≡ e) ×
      (erase w.1 ≡ d)) is good

  pub discarded_sound : (e : PlainExpression) (a : NotedExpression) → note_discarded sc e ≡ Ok a
      → Wants sc a None × (is_free_in sc (type_of a) ≡ true) × (erase a ≡ e)
  discarded_sound e a h =
      let noted = bind_ok (note sc e None)
      (λ b. check (is_free_in sc (type_of b)) (not_free (type_of b)) (Ok b)) a h in
      let b : NotedExpression = noted.0 in
      let free = check_ok (is_free_in sc (type_of b)) (not_free (type_of b)) (Ok b) a noted.2 in
      let is : b ≡ a = ok_same b a free.1 in
      let wants = wants_sound e None b noted.1 in
      subst (λ c. Wants sc c None × (is_free_in sc (type_of c) ≡ true) × (erase c ≡ e)) is
      (wants.0, free.0, wants.1)
