-- Good expressions run, clause by clause.
use Rattle.std.proofs.Common.{◌≡◌, ◌⊎◌, inl, inr, ℕ, Bool, true, false, true≢false, List, [], ◌∷◌, Option}
use Rattle.std.proofs.Common.{None, Some, refl}
use Rattle.std.proofs.Common.{sym, ap, ◌∙◌, subst}
use Rattle.std.proofs.lemmas.Option.{none-some, same_Some}
use Rattle.au_base.specs.declared.kinds.IntKind.{IntKind}
use Rattle.au_ints.specs.declared.operations.IntOp.{IntOp}
use Rattle.au_ints.specs.declared.operations.IntOp.TheVariants as int_op
use Rattle.au_ints.specs.declared.operations.Order.{Order}
use Rattle.au_ints.specs.declared.operations.Order.TheVariants as order
use Rattle.au_syntax.specs.declared.expressions.BinaryOperator.{BinaryOperator}
use Rattle.au_syntax.specs.declared.expressions.BinaryOperator.TheVariants as operator
use Rattle.au_syntax.specs.declared.expressions.BorrowMode.{BorrowMode}
use Rattle.au_syntax.specs.declared.expressions.BorrowMode.TheVariants.{Read, Write, Reborrow}
use Rattle.au_syntax.specs.Expressions.{Node, number, negative, text, truth, nil, path, arrow, call}
use Rattle.au_syntax.specs.Expressions.{named_call}
use Rattle.au_syntax.specs.Expressions.{parenthesized, dereference, borrow, borrow_part, binary, negation}
use Rattle.au_syntax.specs.Expressions.{typed, choice}
use Rattle.au_syntax.specs.Expressions.{no_expressions, expressions, no_arguments, arguments}
use Rattle.au_syntax.specs.Names.{Placed}
use Rattle.au_syntax.specs.Plain.{Bytes}
use Rattle.au_types.specs.declared.types.Region.{Region}
use Rattle.au_types.specs.Types as mean
use Rattle.au_types.specs.Types.{Meaning}
use Rattle.au_types.proofs.SameLemmas.{same_is}
use Rattle.au_matching.specs.Bindings.{Bindings}
use Rattle.au_type_texts.specs.Given.{Given, closed_under}
use Rattle.au_type_texts.specs.Types.{ClosedType}
use Rattle.au_running_types.specs.Running.{region_running, running, token}
use Rattle.au_memory.specs.Loans.{Types}
use Rattle.au_lending.specs.Seeing.{LeadsOn}
use Rattle.au_typing.specs.Bare.{is_arithmetic, is_bare}
use Rattle.au_typing.specs.Calls.{by_labels, in_order}
use Rattle.au_typing.specs.Good.{AllGood, AllGoodIn, AllGoodLabelled, ArePaired, GoodBinary, GoodBorrow}
use Rattle.au_typing.specs.Good.{GoodPart}
use Rattle.au_typing.specs.Good.{PairedModes, count_of, items_of, labels_of, shown, values_of}
use Rattle.au_typing.specs.Lookups.{IsPart, target_behind, value_type}
use Rattle.au_typing.specs.Notes.{Mode, Note, NotedArguments, NotedExpression, NotedExpressions, mode_of}
use Rattle.au_typing.specs.Notes.{note_of}
use Rattle.au_typing.specs.Notes.{type_of}
use Rattle.au_typing.specs.Rules.{is_integer, is_integer_or_truth, is_logical, meets}
use Rattle.au_typing.specs.Scopes.{Scope}
use Rattle.au_typing.proofs.Wanted.{wanted_is_had}
use Rattle.au_meaning.specs.Expressions.{alone, compared_kind, computes, compares, kind_in}
use Rattle.au_meaning.specs.Expressions.{names_of, note_of as noted, operation_of}
use Rattle.au_meaning.specs.Names as meaning
use Rattle.au_meaning.specs.Views.{View}
use Rattle.au_known_types.specs.Known.{IsKnownIn, ModeIsKnownIn}
use Rattle.au_known_types.specs.Laws.{ModesAreKnown}
use Rattle.au_known_types.proofs.CallLemmas.{by_labels_well, call_known, in_order_well}
use Rattle.au_known_types.proofs.KnownLemmas.{reads_parts, truth_known, writes_parts}
use Rattle.au_known_types.proofs.NotedLemmas.{all_last, behind_known, labelled_last, part_known, type_known}
use Rattle.au_known_types.proofs.NotedLemmas.{value_known, variable_known}
use Rattle.au_judged_types.specs.Bounds.{parameters}
use Rattle.au_typing.specs.Lookups.{parameters_in}
use Rattle.au_running_lives.specs.Expressions.{AreOf, Borrows, IsEquality, IsNamed, IsOf, Joins}
use Rattle.au_running_lives.specs.Expressions.{LooksInto, Mentions}
use Rattle.au_running_lives.specs.Expressions.{NamedAreOf, Reaches, Refers}
use Rattle.au_running_lives.specs.Known.{Callables, InScope, IsReference}
use Rattle.au_running_lives.specs.Uses.{IsKept}
use Rattle.au_judged_bodies.specs.Frames.{FrameFits, VariableIsThere}
use Rattle.au_judged_bodies.specs.TypedRunsLaws.{CallsRun, IsKeptBy, Keeps, KeepsIn, KeepsLabelled, kinds_labelled}
use Rattle.au_judged_bodies.specs.TypedRunsLaws.{kinds_of}
use Rattle.au_judged_bodies.proofs.TypedRunsPartLemmas.{part_leads, region_scoped, value_there, variable_there}

-- a type that is wanted is had
pub had : (sc : Scope) (e : NotedExpression) (t : Meaning) → AllGood sc e → mode_of e ≡ Some t → type_of e ≡ t
had sc e t good is =
    sym (same_is t (type_of e) (sym (ap (λ m. meets m (type_of e)) is) ∙ wanted_is_had sc e good))

-- the meaning reads the note of an expression
pub noted_alike : (e : NotedExpression) → noted e ≡ note_of e
noted_alike (number n l) = refl
noted_alike (negative n l) = refl
noted_alike (text n t) = refl
noted_alike (truth n b) = refl
noted_alike (nil n) = refl
noted_alike (path n x fields) = refl
noted_alike (arrow n x fields) = refl
noted_alike (call n f es c) = refl
noted_alike (named_call n f es c) = refl
noted_alike (parenthesized n e) = refl
noted_alike (dereference n e) = refl
noted_alike (borrow n m x) = refl
noted_alike (borrow_part n x fields) = refl
noted_alike (binary n op a b) = refl
noted_alike (negation n e) = refl
noted_alike (typed n e t) = refl
noted_alike (choice n c a b) = refl

-- an integer kind
pub integer_is : (t : Meaning) → is_integer t ≡ true → (kind : IntKind) × (t ≡ mean.integer kind)
integer_is (mean.integer kind) e = (kind, refl)
integer_is mean.unit e = absurd (true≢false (sym e))
integer_is mean.truth e = absurd (true≢false (sym e))
integer_is mean.text e = absurd (true≢false (sym e))
integer_is (mean.parameter name) e = absurd (true≢false (sym e))
integer_is (mean.named at args) e = absurd (true≢false (sym e))
integer_is (mean.reads t region) e = absurd (true≢false (sym e))
integer_is (mean.writes t region) e = absurd (true≢false (sym e))

integer_or_truth : (t : Meaning) → is_integer_or_truth t ≡ true
    → ((kind : IntKind) × (t ≡ mean.integer kind)) ⊎ (t ≡ mean.truth)
integer_or_truth (mean.integer kind) e = inl (kind, refl)
integer_or_truth mean.truth e = inr refl
integer_or_truth mean.unit e = absurd (true≢false (sym e))
integer_or_truth mean.text e = absurd (true≢false (sym e))
integer_or_truth (mean.parameter name) e = absurd (true≢false (sym e))
integer_or_truth (mean.named at args) e = absurd (true≢false (sym e))
integer_or_truth (mean.reads t region) e = absurd (true≢false (sym e))
integer_or_truth (mean.writes t region) e = absurd (true≢false (sym e))

-- what stands behind a reference
behind_is : (t target : Meaning) → target_behind t ≡ Some target
    → (region : Region) × ((t ≡ mean.reads target region) ⊎ (t ≡ mean.writes target region))
behind_is (mean.reads t region) target e = (region, inl (ap (λ u. mean.reads u region) (same_Some t target e)))
behind_is (mean.writes t region) target e = (region, inr (ap (λ u. mean.writes u region) (same_Some t target e)))
behind_is mean.unit target e = absurd (none-some target e)
behind_is mean.truth target e = absurd (none-some target e)
behind_is (mean.integer kind) target e = absurd (none-some target e)
behind_is mean.text target e = absurd (none-some target e)
behind_is (mean.parameter name) target e = absurd (none-some target e)
behind_is (mean.named at args) target e = absurd (none-some target e)

module _ (types : Types) (owner : ClosedType → Option (List ℕ)) {I K : Type 0} (see : View I Note (Unit {0}))
    (known : Callables I K) (may_hand : Meaning → Type 0) (names : ℕ → Meaning) (active : ℕ → Bool) (sc : Scope)
    (scope : meaning.Scope)
    (s : Bindings) (given : Given) (z : ℕ)
    (fits : FrameFits types see names active sc scope s given z)
    (calls : CallsRun types owner see known may_hand names active sc scope s given z) where
  abbrev run : Meaning → Meaning
  run t = running s z t

  abbrev Of : NotedExpression → Meaning → Type 0
  Of e t = IsOf types owner see known names z active scope e t

  abbrev There : Bytes → Meaning → Type 0
  There name t = VariableIsThere types see names active sc scope s given z name t

  noted_kind : (n : Note) (kind : IntKind) → n.of ≡ mean.integer kind → kind_in (see.type_of n) ≡ Some kind
  noted_kind n kind is = ap kind_in (fits.noted n ∙ ap (λ t. Some (closed_under given t)) is)

  -- ---- names and parts

  mentions : (x : Bytes) (n : Note) (t : Meaning) → value_type sc x ≡ Some t → n.of ≡ t
      → Mentions types owner see known names z active (meaning.variable_of scope x) n x (run n.of)
  mentions x n t e is = by (value_there types see names active sc scope s given z fits x t e)
    where
      by : There x t ⊎ ((meaning.variable_of scope x ≡ None) × (sc.outside.constant x ≡ Some t))
          → Mentions types owner see known names z active (meaning.variable_of scope x) n x (run n.of)
      by (inl there) =
          subst (λ o. Mentions types owner see known names z active o n x (run n.of)) (sym there.means) (
            there.stands ∙ ap run (sym is),
            λ free. fits.copied n (subst (IsKnownIn sc) (sym is) (value_known sc fits.known x t e).0) free,
          )
      by (inr (none, constant)) =
          subst (λ o. Mentions types owner see known names z active o n x (run n.of)) (sym none)
          (fits.constants x n.of n (constant ∙ ap (λ u. Some u) (sym is)))

  looks : (x : Bytes) (fields : List (Placed Bytes)) (t part : Meaning) → value_type sc x ≡ Some t
      → GoodPart sc t fields part
      → LooksInto types owner see known names z active (meaning.variable_of scope x) (names_of fields) (run part)
  looks x fields t part e good = by (value_there types see names active sc scope s given z fits x t e)
    where
      whole : IsKnownIn sc t
      whole = (value_known sc fits.known x t e).0

      by : There x t ⊎ ((meaning.variable_of scope x ≡ None) × (sc.outside.constant x ≡ Some t))
          → LooksInto types owner see known names z active (meaning.variable_of scope x) (names_of fields) (run part)
      by (inl there) =
          let leads = part_leads types see names active sc scope s given z fits fields t part whole good.1 in
          subst (λ o. LooksInto types owner see known names z active o (names_of fields) (run part)) (sym there.means) (
            leads.0,
            ap (λ o. meaning.path_numbers (λ of. see.fields of 0) o (names_of fields)) there.of ∙ leads.1,
            subst (λ u. LeadsOn types u leads.0 (run part)) (sym there.stands) leads.2,
            fits.free part (part_known sc fits.known fields t part good.1 whole) good.2,
          )
      by (inr (none, constant)) = absurd (true≢false (sym good.0 ∙ (fits.wholes x t constant).0))

  -- a part of what a reference leads to, in the region of the reference
  reaches : (x : Bytes) (fields : List (Placed Bytes)) (t target part : Meaning) (region : Region)
      (IsRef : Meaning → Type 0) → There x t → IsKnownIn sc t → IsKnownIn sc target
      → (t ≡ mean.reads target region) ⊎ (t ≡ mean.writes target region) → InScope active (region_running s z region)
      → IsPart sc target fields part → IsRef (run target)
      → Reaches types owner see known names z active (meaning.variable_of scope x) (names_of fields)
      (region_running s z region) (run part) IsRef
  reaches x fields t target part region IsRef there whole behind is scoped parts its =
      let leads = part_leads types see names active sc scope s given z fits fields target part behind parts in
      subst (λ o. Reaches types owner see known names z active o (names_of fields) (region_running s z region)
      (run part)
      IsRef) (sym there.means) (
        leads.0,
        run target,
        ap (λ o. meaning.path_numbers (λ u. see.fields u 0) o (names_of fields))
            (ap meaning.target_behind there.of ∙ closed_behind is) ∙ leads.1,
        its,
        scoped,
        leads.2,
      )
    where
      closed_behind : (t ≡ mean.reads target region) ⊎ (t ≡ mean.writes target region)
          → meaning.target_behind (Some (closed_under given t)) ≡ Some (closed_under given target)
      closed_behind (inl e) = ap (λ u. meaning.target_behind (Some (closed_under given u))) e
      closed_behind (inr e) = ap (λ u. meaning.target_behind (Some (closed_under given u))) e

  region_of_known : (t target : Meaning) (region : Region) → IsKnownIn sc t
      → (t ≡ mean.reads target region) ⊎ (t ≡ mean.writes target region) → InScope active (region_running s z region)
  region_of_known t target region whole (inl e) =
      region_scoped types see names active sc scope s given z fits region
      (reads_parts sc.outside.heads (parameters_in sc) sc.regions target region (subst (IsKnownIn sc) e whole)).1
  region_of_known t target region whole (inr e) =
      region_scoped types see names active sc scope s given z fits region
      (writes_parts sc.outside.heads (parameters_in sc) sc.regions target region (subst (IsKnownIn sc) e whole)).1

  -- a reference, where it runs
  reference_runs : (t target : Meaning) (region : Region)
      → (t ≡ mean.reads target region) ⊎ (t ≡ mean.writes target region)
      → IsReference types (run t) (run target) (region_running s z region)
  reference_runs t target region (inl e) = inr (ap run e, fits.readers (run target) (region_running s z region))
  reference_runs t target region (inr e) = inl (ap run e)

  -- ---- single forms

  arrow_of : (n : Node Note) (x : Placed Bytes) (fields : List (Placed Bytes)) → AllGood sc (arrow n x fields)
      → Of (arrow n x fields) (run n.note.of)
  arrow_of n x fields good =
      by (value_there types see names active sc scope s given z fits x.name t e)
    where
      t : Meaning
      t = good.1.0

      target : Meaning
      target = good.1.1

      e : value_type sc x.name ≡ Some t
      e = good.1.2

      whole : IsKnownIn sc t
      whole = (value_known sc fits.known x.name t e).0

      behind : IsKnownIn sc target
      behind = behind_known sc fits.known t target good.1.3 whole

      its : (region : Region) × ((t ≡ mean.reads target region) ⊎ (t ≡ mean.writes target region))
      its = behind_is t target good.1.3

      by : There x.name t ⊎ ((meaning.variable_of scope x.name ≡ None) × (sc.outside.constant x.name ≡ Some t))
          → Of (arrow n x fields) (run n.note.of)
      by (inl there) = (
        region_running s z its.0,
        fits.free n.note.of (part_known sc fits.known fields target n.note.of good.1.4.1 behind) good.1.4.2,
        reaches x.name fields t target n.note.of its.0
            (λ of. (one : Meaning) × IsNamed types owner see known names z active (meaning.variable_of scope x.name) one
            × IsReference types one of (region_running s z its.0)) there whole behind its.1
            (region_of_known t target its.0 whole its.1) good.1.4.1 (
              run t,
              subst (λ o. IsNamed types owner see known names z active o (run t)) (sym there.means) there.stands,
              reference_runs t target its.0 its.1,
            ),
      )
      by (inr (none, constant)) = absurd (none-some target (sym (fits.wholes x.name t constant).1 ∙ good.1.3))

  borrow_of : (m : BorrowMode) (x : Bytes) (t of : Meaning) → There x t → IsKnownIn sc t → GoodBorrow m t of
      → Borrows types owner see known names z active m (meaning.variable_of scope x) (run of)
  borrow_of Read x t of there whole is =
      subst (λ o. Borrows types owner see known names z active Read o (run of)) (sym there.means)
      (ap run is ∙ ap (λ u. mean.reads u (token z)) (sym there.stands))
  borrow_of Write x t of there whole is =
      subst (λ o. Borrows types owner see known names z active Write o (run of)) (sym there.means)
      (ap run is ∙ ap (λ u. mean.writes u (token z)) (sym there.stands))
  borrow_of Reborrow x t of there whole is =
      subst (λ o. Borrows types owner see known names z active Reborrow o (run of)) (sym there.means) (
        run is.0,
        region_running s z is.1,
        there.stands ∙ ap run is.2,
        region_of_known t is.0 is.1 whole (inr is.2),
        ap run is.3,
      )

  part_of : (n : Node Note) (x : Placed Bytes) (fields : List (Placed Bytes)) → AllGood sc (borrow_part n x fields)
      → Of (borrow_part n x fields) (run n.note.of)
  part_of n x fields good =
      by (value_there types see names active sc scope s given z fits x.name (mean.reads target region) e)
    where
      target : Meaning
      target = good.1.0

      region : Region
      region = good.1.1

      e : value_type sc x.name ≡ Some (mean.reads target region)
      e = good.1.3

      whole : IsKnownIn sc (mean.reads target region)
      whole = (value_known sc fits.known x.name (mean.reads target region) e).0

      by : There x.name (mean.reads target region)
          ⊎ ((meaning.variable_of scope x.name ≡ None) × (sc.outside.constant x.name ≡ Some (mean.reads target region)))
          → Of (borrow_part n x fields) (run n.note.of)
      by (inl there) = (
        region_running s z region,
        run good.1.2,
        ap run good.1.6,
        reaches x.name fields (mean.reads target region) target good.1.2 region
            (λ of. IsNamed types owner see known names z active (meaning.variable_of scope x.name)
            (mean.reads of (region_running s z region))
            × (types.is_free (mean.reads of (region_running s z region)) ≡ true)) there whole
            (reads_parts sc.outside.heads (parameters_in sc) sc.regions target region whole).0 (inl refl)
            (region_of_known (mean.reads target region) target region whole (inl refl)) good.1.5 (
              subst (λ o. IsNamed types owner see known names z active o (run (mean.reads target region)))
                  (sym there.means) there.stands,
              fits.readers (run target) (region_running s z region),
            ),
      )
      by (inr (none, constant)) =
          absurd (none-some target (sym (fits.wholes x.name (mean.reads target region) constant).1))

  -- the variable that an expression is has the type of the expression
  alone_named : (e : NotedExpression) → AllGood sc e → (x : meaning.Variable) → alone scope e ≡ Some x
      → names x.number ≡ run (type_of e)
  alone_named (path n x []) good v is =
      by (value_there types see names active sc scope s given z fits x.name good.1.0 good.1.1)
    where
      by : There x.name good.1.0
          ⊎ ((meaning.variable_of scope x.name ≡ None) × (sc.outside.constant x.name ≡ Some good.1.0))
          → names v.number ≡ run n.note.of
      by (inl there) =
          ap (λ (w : meaning.Variable). names w.number) (same_Some v there.variable (sym is ∙ there.means))
          ∙ there.stands ∙ ap run (sym good.1.2)
      by (inr (none, constant)) = absurd (none-some v (sym none ∙ is))
  alone_named (parenthesized n e) good v is = alone_named e good.2 v is ∙ ap run (sym good.1.1)
  alone_named (path n x (field ∷ fields)) good v is = absurd (none-some v is)
  alone_named (number n l) good v is = absurd (none-some v is)
  alone_named (negative n l) good v is = absurd (none-some v is)
  alone_named (text n t) good v is = absurd (none-some v is)
  alone_named (truth n b) good v is = absurd (none-some v is)
  alone_named (nil n) good v is = absurd (none-some v is)
  alone_named (arrow n x fields) good v is = absurd (none-some v is)
  alone_named (call n f es c) good v is = absurd (none-some v is)
  alone_named (named_call n f es c) good v is = absurd (none-some v is)
  alone_named (dereference n e) good v is = absurd (none-some v is)
  alone_named (borrow n m x) good v is = absurd (none-some v is)
  alone_named (borrow_part n x fields) good v is = absurd (none-some v is)
  alone_named (binary n op a b) good v is = absurd (none-some v is)
  alone_named (negation n e) good v is = absurd (none-some v is)
  alone_named (typed n e t) good v is = absurd (none-some v is)
  alone_named (choice n c a b) good v is = absurd (none-some v is)

  dereference_of : (n : Node Note) (e : NotedExpression) → AllGood sc (dereference n e) → Of e (run (type_of e))
      → Of (dereference n e) (run n.note.of)
  dereference_of n e good its = (
    run (type_of e),
    region_running s z behind.0,
    reference_runs (type_of e) n.note.of behind.0 behind.1,
    region_of_known (type_of e) n.note.of behind.0 whole behind.1,
    fits.free n.note.of (behind_known sc fits.known (type_of e) n.note.of good.1.1 whole) good.1.2,
    refers (alone scope e) refl,
  )
    where
      whole : IsKnownIn sc (type_of e)
      whole = type_known sc fits.known e good.2 (subst (ModeIsKnownIn sc) (sym good.1.0) tt)

      behind : (region : Region)
          × ((type_of e ≡ mean.reads n.note.of region) ⊎ (type_of e ≡ mean.writes n.note.of region))
      behind = behind_is (type_of e) n.note.of good.1.1

      refers : (o : Option meaning.Variable) → alone scope e ≡ o
          → Refers types owner see known names z active o (Of e) (run (type_of e))
      refers None is = its
      refers (Some x) is = alone_named e good.2 x is

  -- ---- operators

  paired_type : (mode : Mode) (a b : NotedExpression) → ArePaired mode a b → type_of a ≡ type_of b
  paired_type mode a b paired = same_is (type_of a) (type_of b) paired.one_type

  computed_of : (op : IntOp) (n : Note) (a b : NotedExpression) → is_integer n.of ≡ true
      → n.of ≡ type_of a → type_of a ≡ type_of b → Of a (run (type_of a)) → Of b (run (type_of b))
      → Joins types owner see known (computes op) n (note_of a) (Of a) (Of b) ((k : ℕ) → IsKept see k scope b)
      (run n.of)
  computed_of op n a b whole is same one other =
      let kind = integer_is n.of whole in (
        kind.0,
        noted_kind n kind.0 kind.1,
        subst (Of a) (ap run (sym is ∙ kind.1)) one,
        subst (Of b) (ap run (sym same ∙ sym is ∙ kind.1)) other,
        ap run kind.1,
      )

  compared_of : (op : Order) (n : Note) (a b : NotedExpression) → n.of ≡ mean.truth
      → ((kind : IntKind) × (type_of a ≡ mean.integer kind)) ⊎ ((type_of a ≡ mean.truth) × IsEquality op)
      → type_of a ≡ type_of b → Of a (run (type_of a)) → Of b (run (type_of b))
      → Joins types owner see known (compares op) n (note_of a) (Of a) (Of b) ((k : ℕ) → IsKept see k scope b)
      (run n.of)
  compared_of op n a b is (inl (kind, its)) same one other = (
    ap run is,
    inl (
      kind,
      ap compared_kind (fits.noted (note_of a) ∙ ap (λ t. Some (closed_under given t)) its),
      subst (Of a) (ap run its) one,
      subst (Of b) (ap run (sym same ∙ its)) other,
    ),
  )
  compared_of op n a b is (inr (its, equality)) same one other = (
    ap run is,
    inr (
      ap compared_kind (fits.noted (note_of a) ∙ ap (λ t. Some (closed_under given t)) its),
      equality,
      subst (Of a) (ap run its) one,
      subst (Of b) (ap run (sym same ∙ its)) other,
    ),
  )

  only_integers : (t : Meaning) (op : Order) → is_integer t ≡ true
      → ((kind : IntKind) × (t ≡ mean.integer kind)) ⊎ ((t ≡ mean.truth) × IsEquality op)
  only_integers t op e = inl (integer_is t e)

  equal_either : (t : Meaning) (op : Order) → IsEquality op → is_integer_or_truth t ≡ true
      → ((kind : IntKind) × (t ≡ mean.integer kind)) ⊎ ((t ≡ mean.truth) × IsEquality op)
  equal_either t op equality e = by (integer_or_truth t e)
    where
      by : ((kind : IntKind) × (t ≡ mean.integer kind)) ⊎ (t ≡ mean.truth)
          → ((kind : IntKind) × (t ≡ mean.integer kind)) ⊎ ((t ≡ mean.truth) × IsEquality op)
      by (inl its) = inl its
      by (inr its) = inr (its, equality)

  binary_of : (op : BinaryOperator) (n : Note) (a b : NotedExpression)
      → GoodBinary (is_arithmetic op) (is_logical op) op n a b → AllGood sc a → AllGood sc b
      → IsKeptBy see scope (operation_of op) b → Of a (run (type_of a)) → Of b (run (type_of b))
      → Joins types owner see known (operation_of op) n (note_of a) (Of a) (Of b)
      ((k : ℕ) → IsKept see k scope b) (run n.of)
  binary_of operator.Add n a b good ga gb kept one other =
      computed_of int_op.Add n a b good.is_whole good.of (paired_type n.mode a b good.paired) one other
  binary_of operator.Subtract n a b good ga gb kept one other =
      computed_of int_op.Subtract n a b good.is_whole good.of (paired_type n.mode a b good.paired) one other
  binary_of operator.Multiply n a b good ga gb kept one other =
      computed_of int_op.Multiply n a b good.is_whole good.of (paired_type n.mode a b good.paired) one other
  binary_of operator.Divide n a b good ga gb kept one other =
      computed_of int_op.Divide n a b good.is_whole good.of (paired_type n.mode a b good.paired) one other
  binary_of operator.Equal n a b good ga gb kept one other =
      compared_of order.Equal n a b good.of (equal_either (type_of a) order.Equal tt good.compared)
      (paired_type None a b good.paired) one other
  binary_of operator.NotEqual n a b good ga gb kept one other =
      compared_of order.NotEqual n a b good.of (equal_either (type_of a) order.NotEqual tt good.compared)
      (paired_type None a b good.paired) one other
  binary_of operator.Less n a b good ga gb kept one other =
      compared_of order.Less n a b good.of (only_integers (type_of a) order.Less good.compared)
      (paired_type None a b good.paired) one other
  binary_of operator.LessEqual n a b good ga gb kept one other =
      compared_of order.LessEqual n a b good.of (only_integers (type_of a) order.LessEqual good.compared)
      (paired_type None a b good.paired) one other
  binary_of operator.Greater n a b good ga gb kept one other =
      compared_of order.Greater n a b good.of (only_integers (type_of a) order.Greater good.compared)
      (paired_type None a b good.paired) one other
  binary_of operator.GreaterEqual n a b good ga gb kept one other =
      compared_of order.GreaterEqual n a b good.of (only_integers (type_of a) order.GreaterEqual good.compared)
      (paired_type None a b good.paired) one other
  binary_of operator.And n a b good ga gb kept one other = (
    ap run good.of,
    subst (Of a) (ap run (had sc a mean.truth ga good.first)) one,
    subst (Of b) (ap run (had sc b mean.truth gb good.second)) other,
    kept,
  )
  binary_of operator.Or n a b good ga gb kept one other = (
    ap run good.of,
    subst (Of a) (ap run (had sc a mean.truth ga good.first)) one,
    subst (Of b) (ap run (had sc b mean.truth gb good.second)) other,
    kept,
  )

  -- ---- what is wanted of operands is known

  paired_modes : (first second : Bool) (mode : Mode) (a b : NotedExpression)
      → PairedModes first second mode (note_of a) (note_of b) → AllGood sc a → AllGood sc b → ModeIsKnownIn sc mode
      → ModeIsKnownIn sc (mode_of a) × ModeIsKnownIn sc (mode_of b)
  paired_modes true true mode a b is ga gb wanted =
      (subst (ModeIsKnownIn sc) (sym is.0) wanted, subst (ModeIsKnownIn sc) (sym is.1) wanted)
  paired_modes false false mode a b is ga gb wanted =
      (subst (ModeIsKnownIn sc) (sym is.0) wanted, subst (ModeIsKnownIn sc) (sym is.1) wanted)
  paired_modes true false mode a b is ga gb wanted =
      let last = subst (ModeIsKnownIn sc) (sym is.0) wanted in
      (subst (ModeIsKnownIn sc) (sym is.1) (type_known sc fits.known b gb last), last)
  paired_modes false true mode a b is ga gb wanted =
      let first = subst (ModeIsKnownIn sc) (sym is.0) wanted in
      (first, subst (ModeIsKnownIn sc) (sym is.1) (type_known sc fits.known a ga first))

  is_truth : IsKnownIn sc mean.truth
  is_truth = truth_known sc.outside.heads (parameters_in sc) sc.regions

  binary_modes : (arithmetic logical : Bool) (op : BinaryOperator) (n : Note) (a b : NotedExpression)
      → GoodBinary arithmetic logical op n a b → AllGood sc a → AllGood sc b → ModeIsKnownIn sc n.mode
      → ModeIsKnownIn sc (mode_of a) × ModeIsKnownIn sc (mode_of b)
  binary_modes true logical op n a b good ga gb wanted =
      paired_modes (is_bare a) (is_bare b) n.mode a b good.paired.modes ga gb wanted
  binary_modes false true op n a b good ga gb wanted =
      (subst (ModeIsKnownIn sc) (sym good.first) is_truth, subst (ModeIsKnownIn sc) (sym good.second) is_truth)
  binary_modes false false op n a b good ga gb wanted =
      paired_modes (is_bare a) (is_bare b) None a b good.paired.modes ga gb tt

  -- ---- expressions

  mutual
    pub runs : (e : NotedExpression) → AllGood sc e → ModeIsKnownIn sc (mode_of e) → Keeps see may_hand scope e
        → Of e (run (type_of e))
    runs (number n l) good wanted keeps =
        (_, noted_kind n.note _ good.1.0, good.1.1, ap run good.1.0)
    runs (negative n l) good wanted keeps =
        (_, noted_kind n.note _ good.1.0, good.1.1, ap run good.1.0)
    runs (text n t) good wanted keeps = ap run good.1
    runs (truth n b) good wanted keeps = ap run good.1
    runs (nil n) good wanted keeps = ap run good.1
    runs (path n x []) good wanted keeps = mentions x.name n.note good.1.0 good.1.1 good.1.2
    runs (path n x (field ∷ fields)) good wanted keeps =
        looks x.name (field ∷ fields) good.1.0 n.note.of good.1.1 good.1.2
    runs (arrow n x fields) good wanted keeps = arrow_of n x fields good
    runs (borrow n m x) good wanted keeps =
        borrow_of m x.name good.1.0 n.note.of
        (variable_there types see names active sc scope s given z fits x.name good.1.0 good.1.1)
        (variable_known sc fits.known x.name good.1.0 good.1.1).0 good.1.2
    runs (borrow_part n x fields) good wanted keeps = part_of n x fields good
    runs (parenthesized n e) good wanted keeps =
        subst (Of e) (ap run (sym good.1.1)) (runs e good.2 (subst (ModeIsKnownIn sc) (sym good.1.0) wanted) keeps)
    runs (dereference n e) good wanted keeps =
        dereference_of n e good (runs e good.2 (subst (ModeIsKnownIn sc) (sym good.1.0) tt) keeps)
    runs (binary n op a b) good wanted keeps =
        let modes = binary_modes (is_arithmetic op) (is_logical op) op n.note a b good.1 good.2 good.3 wanted in
        subst (λ m. Joins types owner see known (operation_of op) n.note m (Of a) (Of b)
        ((k : ℕ) → IsKept see k scope b) (run n.note.of)) (sym (noted_alike a))
        (binary_of op n.note a b good.1 good.2 good.3 keeps.0 (runs a good.2 modes.0 keeps.1)
        (runs b good.3 modes.1 keeps.2))
    runs (negation n e) good wanted keeps = (
      subst (Of e) (ap run (had sc e mean.truth good.2 good.1.0))
          (runs e good.2 (subst (ModeIsKnownIn sc) (sym good.1.0) is_truth) keeps),
      ap run good.1.1,
    )
    runs (typed n e t) good wanted keeps =
        let whole = type_known sc fits.known (typed n e t) good wanted in
        subst (Of e) (ap run (had sc e n.note.of good.2 good.1.1))
        (runs e good.2 (subst (ModeIsKnownIn sc) (sym good.1.1) whole) keeps)
    runs (choice n c a b) good wanted keeps =
        let modes = paired_modes (is_bare a) (is_bare b) n.note.mode a b good.1.1.modes good.3 good.4 wanted in (
          subst (Of c) (ap run (had sc c mean.truth good.2 good.1.0))
              (runs c good.2 (subst (ModeIsKnownIn sc) (sym good.1.0) is_truth) keeps.1),
          subst (Of a) (ap run (sym good.1.2)) (runs a good.3 modes.0 keeps.2),
          subst (Of b) (ap run (sym (paired_type n.note.mode a b good.1.1) ∙ sym good.1.2))
              (runs b good.4 modes.1 keeps.3),
          keeps.0,
        )
    runs (call n f es c) good wanted keeps =
        calls.in_order n f es c good wanted keeps.0
        (all_run es good.1
        (call_known sc n.note f.name (in_order (count_of es)) (shown (items_of es)) good.0
        (in_order_well sc (parameters good.0.called.generics) (count_of es))
        (fits.known.outside.takes f.name good.0.called good.0.is_called) wanted
        (all_last sc fits.known es good.1)).modes keeps.1)
    runs (named_call n f es c) good wanted keeps =
        calls.by_labels n f es c good wanted keeps.0
        (labelled_run es good.1
        (call_known sc n.note f.name (by_labels (labels_of es)) (shown (values_of es)) good.0
        (by_labels_well sc (parameters good.0.called.generics) (labels_of es))
        (fits.known.outside.takes f.name good.0.called good.0.is_called) wanted
        (labelled_last sc fits.known es good.1)).modes keeps.1)

    all_run : (es : NotedExpressions) → AllGoodIn sc es → ModesAreKnown sc (shown (items_of es))
        → KeepsIn see may_hand scope es → AreOf types owner see known names z active scope es (kinds_of s z es)
    all_run no_expressions good modes keeps = refl
    all_run (expressions e rest) good modes keeps = (
      run (type_of e),
      kinds_of s z rest,
      refl,
      runs e good.0 modes.0 keeps.0,
      all_run rest good.1 modes.1 keeps.1,
    )

    labelled_run : (es : NotedArguments) → AllGoodLabelled sc es → ModesAreKnown sc (shown (values_of es))
        → KeepsLabelled see may_hand scope es
        → NamedAreOf types owner see known names z active scope es (kinds_labelled s z es)
    labelled_run no_arguments good modes keeps = refl
    labelled_run (arguments label e rest) good modes keeps = (
      run (type_of e),
      kinds_labelled s z rest,
      refl,
      runs e good.0 modes.0 keeps.0,
      labelled_run rest good.1 modes.1 keeps.1,
    )
