-- Good statements run, clause by clause.
use Rattle.std.proofs.Common.{◌≡◌, inl, ℕ, ◌+◌, ◌==◌, Bool, true, false}
use Rattle.std.proofs.Common.{true≢false, List, length, map, Option, Some, refl, sym, ap}
use Rattle.std.proofs.Common.{◌∙◌}
use Rattle.std.proofs.Common.{subst, arith}
use Rattle.std.specs.Prelude.{is_some, slice_get}
use Rattle.std.specs.List.{count_by, list_all, list_any}
use Rattle.std.proofs.lemmas.Bool.{and_parts, eq-eqb, eqb-true}
use Rattle.std.proofs.lemmas.Option.{same_Some}
use Rattle.au_base.specs.declared.kinds.IntKind.{IntKind}
use Rattle.au_syntax.specs.declared.expressions.BorrowMode.{BorrowMode}
use Rattle.au_syntax.specs.declared.expressions.BorrowMode.TheVariants as mode
use Rattle.au_syntax.specs.declared.types.Access.TheVariants as access
use Rattle.au_syntax.specs.Names.{Placed}
use Rattle.au_syntax.specs.Plain.{Bytes}
use Rattle.au_syntax.specs.Statements.{skip, declare, destructure, assign, assign_through, conditional}
use Rattle.au_syntax.specs.Statements.{conditional_else, case_of, while_loop, for_loop, borrow_in}
use Rattle.au_syntax.specs.Statements.{borrow_typed, discard}
use Rattle.au_syntax.specs.Statements.{return_of, no_statements, statements, no_branches, branches, no_arms}
use Rattle.au_syntax.specs.Statements.{arms}
use Rattle.au_syntax.specs.Types.{Bound, WrittenType}
use Rattle.au_types.specs.Types as mean
use Rattle.au_types.specs.Types.{Meaning, integer, writes}
use Rattle.au_types.proofs.SameLemmas.{same_is}
use Rattle.au_matching.specs.Bindings.{Bindings}
use Rattle.au_type_texts.specs.Given.{Given, closed_under}
use Rattle.au_type_texts.specs.Types.{ClosedType}
use Rattle.au_running_types.specs.Running.{is_lasting, region_running, running}
use Rattle.au_running_types.proofs.NameLemmas.{type_lasts}
use Rattle.au_memory.specs.Loans.{Types}
use Rattle.au_effects.specs.Parts.{along}
use Rattle.au_typing.specs.Bare.{is_bare}
use Rattle.au_typing.specs.InScope.{after, fixed_variable, is_var, with_bound, with_reference, with_typed}
use Rattle.au_typing.specs.InScope.{with_variable}
use Rattle.au_typing.specs.Lookups.{written_type}
use Rattle.au_typing.specs.Notes.{Note, NotedExpression, mode_of, type_of}
use Rattle.au_typing.specs.Parts.{ArmHead, borrow_type, case_of_arm, heads_of, is_for}
use Rattle.au_typing.specs.Scopes.{Case, Scope}
use Rattle.au_typing.specs.Statements.{GoodArm, GoodArmBlocks, GoodArms, GoodBlock, GoodBranches}
use Rattle.au_typing.specs.Statements.{GoodCase, GoodDeclared, GoodStatement, GoodTaken, IsLent}
use Rattle.au_typing.specs.Trees.{NotedArms, NotedBranches, NotedStatement, NotedStatements}
use Rattle.au_meaning.specs.Expressions.{note_of as noted}
use Rattle.au_meaning.specs.Names as meaning
use Rattle.au_meaning.specs.Names.{names_in, names_in_block, names_in_tests}
use Rattle.au_meaning.specs.Statements as meant
use Rattle.au_meaning.specs.Statements.{fields_noted, fields_told, means_case}
use Rattle.au_meaning.specs.Views.{Field, View}
use Rattle.au_known_types.specs.Known.{IsKnownIn, ModeIsKnownIn}
use Rattle.au_known_types.proofs.NotedLemmas.{part_known, type_known, written_known}
use Rattle.au_known_types.proofs.ScopeLemmas.{lasts}
use Rattle.au_running_lives.specs.Blocks.{IsWholeOf, Lends, Runs, RunsAll, RunsArms, RunsTests}
use Rattle.au_running_lives.specs.Blocks.{AreBound, Either, IsRecordOf, through, with_types}
use Rattle.au_safe_steps.specs.Orders.{AreApart}
use Rattle.au_running_lives.specs.Expressions.{IsOf}
use Rattle.au_running_lives.specs.Held.{IsPermitted, Permits}
use Rattle.au_running_lives.specs.Known.{Callables, with_token}
use Rattle.au_running_lives.specs.Lives.{put}
use Rattle.au_judged_bodies.specs.Frames.{RecordIsSeen, field_closed}
use Rattle.au_judged_bodies.specs.TypedRunsLaws.{Keeps}
use Rattle.au_judged_bodies.proofs.TypedRunsExpressionLemmas.{had, integer_is}
use Rattle.au_judged_bodies.specs.Besides.{Besides, BesidesAll, BesidesArms, BesidesTests, IsNewRegion}
use Rattle.au_judged_bodies.specs.Besides.{AreFineIn}
use Rattle.au_judged_bodies.specs.Covering.{MayHold}
use Rattle.au_judged_bodies.specs.Rounds.{EachLasts, PlaceFits, kinds_running}
use Rattle.au_judged_bodies.specs.Rounds.{names_of as fields_names}
use Rattle.au_judged_bodies.proofs.BoundLemmas.{are_bound, bound_kinds, bound_last, drops, kinds_last}
use Rattle.au_judged_bodies.proofs.BoundLemmas.{place_bound}
use Rattle.au_judged_bodies.proofs.TypedBlocksPlaceLemmas.{place_with}
use Rattle.au_judged_bodies.proofs.TypedBlocksPlaceLemmas.{whole_of}
use Rattle.au_judged_bodies.proofs.ToldLemmas.{ToldFits, told_fits}
use Rattle.au_judged_bodies.proofs.PieceLemmas.{AllRun, Place, any_rest, assigns, bound_whole, bounds_modes}
use Rattle.au_judged_bodies.proofs.PieceLemmas.{counter_fine, for_target, free_part, is_truth, later_on}
use Rattle.au_judged_bodies.proofs.PieceLemmas.{lent_runs, note_is, of_each, one_arm, part_lasts, put_known}
use Rattle.au_judged_bodies.proofs.PieceLemmas.{puts, unwanted, wanted, wants_whole}

module _ (types : Types) (owner : ClosedType → Option (List ℕ)) {I K : Type 0} (see : View I Note (Unit {0}))
    (known : Callables I K) (may_hand : Meaning → Type 0) (given : Given) (Stands : Bindings → Type 0)
    (loose : ℕ → Bool) (result : Meaning)
    {V W : Type 0} (permits : Permits V W) (key : V) (counts : (kind : IntKind) → IsPermitted permits key
    (integer kind)) where
  -- ---- the arms of a case

  -- which case an arm is for: the one that is met, or another
  arm_tag : (sc : Scope) (s : Bindings) (active : ℕ → Bool) (n : Note) (t : Meaning) (cases : List Case)
      (f : ToldFits types see given active sc s n t cases) (head : ArmHead) (arm : GoodArm sc cases head) (k : ℕ)
      → means_case see n head.name k ≡ true → slice_get cases k ≡ Some arm.one
  arm_tag sc s active n t cases f head arm k is =
      let its = f.means head.name arm.one arm.is_for in
      subst (λ i. slice_get cases i ≡ Some arm.one)
      (eqb-true its.0 k (sym (ap (meant.is_tag k) its.2) ∙ is)) its.1

  arm_other : (sc : Scope) (s : Bindings) (active : ℕ → Bool) (n : Note) (t : Meaning) (cases : List Case)
      (f : ToldFits types see given active sc s n t cases) (head : ArmHead) (arm : GoodArm sc cases head) (k : ℕ)
      (one : Case) → slice_get cases k ≡ Some one → means_case see n head.name k ≡ false
      → is_for sc one head ≡ true → ⊥
  arm_other sc s active n t cases f head arm k one at is for_it =
      let its = f.means head.name arm.one arm.is_for in
      let same : its.0 ≡ k =
      f.apart its.0 k arm.one one its.1 at
      (for_target one arm.one cases (sc.outside.target head.name) for_it arm.is_for) in
      true≢false (sym (eq-eqb its.0 k same) ∙ sym (ap (meant.is_tag k) its.2) ∙ is)

  -- what an arm binds, where the fields of its case come as values of these types
  module _ (active : ℕ → Bool) (number : ℕ) (sc : Scope) (scope : meaning.Scope) (s : Bindings) (names : ℕ → Meaning)
      (p : PlaceFits types owner see known may_hand given Stands result active number sc scope s names) where
    abbrev Binds : Note → ℕ → List (Bound Bytes) → NotedStatements → List Meaning → Type 0
    Binds n k binds block kinds =
        (fields : List Field) × (fields_told see n k ≡ Some fields)
        × ((bound : AreBound types owner see known result loose permits key number fields kinds binds)
        × RunsAll types owner see known result loose permits key active (number + length binds)
        (meaning.with_bound (fields_told see n k) number binds scope) block (with_types number bound.bound names))

    arm_runs : (n : Note) (t : Meaning) (cases : List Case) (f : ToldFits types see given active sc s n t cases)
        (name : Placed Bytes) (binds : List (Bound Bytes)) (block : NotedStatements)
        (arm : GoodArm sc cases (record { name = name.name; binds = binds })) (k : ℕ) (one : Case)
        (kinds : List Meaning)
        → slice_get cases k ≡ Some one → kinds ≡ kinds_running s 0 one.fields
        → AreFineIn see loose (MayHold permits key Stands) sc number binds → GoodBlock block (with_bound binds sc)
        → BesidesAll see loose (MayHold permits key Stands) may_hand (number + length binds) (with_bound binds sc)
        (meaning.with_bound (fields_told see n k) number binds scope) block → AllRun types owner see known may_hand
        given Stands loose result permits key counts block
        → means_case see n name.name k ≡ true → Binds n k binds block kinds
    arm_runs n t cases f name binds block arm k one kinds at are may good besides block_runs is =
        subst (Binds n k binds block) (sym kinds_are) (
          map (field_closed given) arm.one.fields,
          seen,
          (
            are_bound types owner see known may_hand given Stands loose result permits key counts active number sc
                scope s names p arm.one.fields binds
                arm.bound arm.each (f.fields k arm.one there) may,
            block_runs active (number + length binds) (with_bound binds sc)
                (meaning.with_bound (fields_told see n k) number binds scope) s
                (with_types number (bound_kinds sc arm.one.fields s binds arm.bound) names)
                (place_bound types owner see known may_hand given Stands loose result permits key counts active sc
                arm.one.fields
                (fields_told see n k) seen binds arm.bound number sc scope s names (λ w. refl) p) good besides,
          ),
        )
      where
        there : slice_get cases k ≡ Some arm.one
        there = arm_tag sc s active n t cases f (record { name = name.name; binds = binds }) arm k is

        seen : fields_told see n k ≡ Some (map (field_closed given) arm.one.fields)
        seen = f.seen k arm.one there

        kinds_are : kinds ≡ kinds_running s 0 arm.one.fields
        kinds_are = are ∙ ap (λ (c : Case). kinds_running s 0 c.fields) (same_Some one arm.one (sym at ∙ there))

  -- ---- statements

  -- what follows a statement runs, where names have these types
  abbrev Rest : NotedStatement → (ℕ → Bool) → ℕ → meaning.Scope → NotedStatements → (ℕ → Meaning) → Type 0
  Rest st active number scope rest more =
      RunsAll types owner see known result loose permits key active (number + names_in st)
      (meant.after see number st scope) rest more

  abbrev StatementRuns : NotedStatement → Type 0
  StatementRuns st =
      (active : ℕ → Bool) (number : ℕ) (sc : Scope) (scope : meaning.Scope) (s : Bindings) (names : ℕ → Meaning)
      → Place types owner see known may_hand given Stands loose result permits key counts active number sc scope s
      names → GoodStatement st sc → Besides see loose (MayHold permits key Stands) may_hand number sc scope st
      → (rest : NotedStatements)
      → ((more : ℕ → Meaning) → Place types owner see known may_hand given Stands loose result permits key counts
      active (number + names_in st) (after st sc) (meant.after see number st scope) s more
      → Rest st active number scope rest more)
      → Runs types owner see known result loose permits key active number scope st (Rest st active number scope rest)
      names

  abbrev TestsRun : NotedBranches → Type 0
  TestsRun tests =
      (active : ℕ → Bool) (number : ℕ) (sc : Scope) (scope : meaning.Scope) (s : Bindings) (names : ℕ → Meaning)
      → Place types owner see known may_hand given Stands loose result permits key counts active number sc scope s
      names → GoodBranches tests sc → BesidesTests see loose (MayHold permits key Stands) may_hand number sc scope tests
      → RunsTests types owner see known result loose permits key active number scope tests names

  abbrev ArmsRun : NotedArms → Type 0
  ArmsRun all =
      (active : ℕ → Bool) (number : ℕ) (sc : Scope) (scope : meaning.Scope) (s : Bindings) (names : ℕ → Meaning)
      → Place types owner see known may_hand given Stands loose result permits key counts active number sc scope s
      names → (n : Note) (t : Meaning) (cases : List Case)
      → ToldFits types see given active sc s n t cases → GoodArms sc cases (heads_of all) → GoodArmBlocks all sc
      → BesidesArms see loose (MayHold permits key Stands) may_hand number sc scope n all → (k : ℕ) (one : Case)
      (kinds : List Meaning)
      → slice_get cases k ≡ Some one → kinds ≡ kinds_running s 0 one.fields
      → list_any (is_for sc one) (heads_of all) ≡ true
      → RunsArms types owner see known result loose permits key active number scope n all k kinds names

  -- `let` and `var`
  declared_runs : (t : WrittenType) (name : Placed Bytes) (assignable : Bool) (e : NotedExpression) (active : ℕ → Bool)
      (number : ℕ) (sc : Scope) (scope : meaning.Scope) (s : Bindings) (names : ℕ → Meaning)
      (p : Place types owner see known may_hand given Stands loose result permits key counts active number sc scope s
      names) (good : GoodDeclared sc t e)
      → Place types owner see known may_hand given Stands loose result permits key counts active (number + 1)
      (with_typed name.name assignable (written_type sc t) sc)
      (meaning.with_name name.name number (see.type_of (noted e)) scope) s (put number (running s 0 good.of) names)
  declared_runs t name assignable e active number sc scope s names p good =
      subst (λ o. Place types owner see known may_hand given Stands loose result permits key counts active
      (number + 1) (with_typed name.name assignable o sc)
      (meaning.with_name name.name number (see.type_of (noted e)) scope) s (put number (running s 0 good.of) names))
      (sym good.formed)
      (place_with types owner see known may_hand given Stands result active number sc scope s names p (number + 1)
      (record { name = name.name; of = good.of; assignable = assignable }) (see.type_of (noted e)) (running s 0 good.of)
      (omega arith) whole.0 whole.1
      (note_is types owner see known may_hand given Stands loose result permits key counts active number sc scope s
      names p e
      ∙ ap (λ u. Some (closed_under given u)) (had sc e good.of good.wants.0 good.wants.1))
      (λ z. type_lasts s 0 z good.of whole.1))
    where
      whole : IsKnownIn sc good.of × (is_lasting good.of ≡ true)
      whole = written_known sc t good.of good.formed

  -- a record is taken apart
  taken_runs : (binds : List (Bound Bytes)) (e : NotedExpression) (active : ℕ → Bool) (number : ℕ) (sc : Scope)
      (scope : meaning.Scope) (s : Bindings) (names : ℕ → Meaning)
      (p : Place types owner see known may_hand given Stands loose result permits key counts active number sc scope s
      names)
      (good : GoodTaken sc binds e) → Keeps see may_hand scope e → AreFineIn see loose (MayHold permits key Stands)
      sc number binds
      → (Q : (ℕ → Meaning) → Type 0)
      → ((more : ℕ → Meaning) → Place types owner see known may_hand given Stands loose result permits key counts
      active (number + length binds) (with_bound binds sc)
      (meaning.with_bound (fields_noted see (noted e)) number binds scope) s more → Q more)
      → (fields : List Field) × (kinds : List Meaning) × (fields_noted see (noted e) ≡ Some fields)
      × ((z : ℕ) → active z ≡ false → (of : Meaning)
      × IsOf types owner see known names z (with_token z active) scope e of
      × IsRecordOf types owner see known result loose permits key kinds of)
      × ((bound : AreBound types owner see known result loose permits key number fields kinds binds)
      × Q (with_types number bound.bound names))
  taken_runs binds e active number sc scope s names p good keeps may Q next = (
    map (field_closed given) good.fields,
    kinds_running s 0 good.fields,
    fields_are,
    λ z off. (
      running s z (type_of e),
      of_each types owner see known may_hand given Stands loose result permits key counts active number sc scope s
          names p e good.wants.0 mode keeps z,
      ((seen z).0.runs ∙ ap (λ (l : List Meaning). Some l) (kinds_last s z 0 good.fields last), (seen z).0.alone),
    ),
    (
      are_bound types owner see known may_hand given Stands loose result permits key counts active number sc scope s
          names p good.fields binds
          good.bound good.each (seen 0).1 may,
      next (with_types number (bound_kinds sc good.fields s binds good.bound) names)
          (place_bound types owner see known may_hand given Stands loose result permits key counts active sc good.fields
          (fields_noted see (noted e)) fields_are binds good.bound number sc scope s names (λ w. refl) p),
    ),
  )
    where
      mode : ModeIsKnownIn sc (mode_of e)
      mode = unwanted types owner see known may_hand given Stands loose result permits key counts active number sc
          scope s names p (mode_of e) good.wants.1

      seen : (z : ℕ) → RecordIsSeen types see s given z (type_of e) good.fields × AreApart (fields_names good.fields)
      seen z = p.round.records s sc.regions z (type_of e) good.fields p.good
          (type_known sc p.knows e good.wants.0 mode) good.known

      last : EachLasts good.fields
      last = bound_last sc good.fields binds good.bound good.each (seen 0).1

      fields_are : fields_noted see (noted e) ≡ Some (map (field_closed given) good.fields)
      fields_are = ap (λ o. along o (λ of. see.fields of 0)) (note_is types owner see known may_hand given Stands
          loose result permits key counts active number sc scope s names p e)
          ∙ (seen 0).0.closed

  borrowed_runs : (m : BorrowMode) (x r region : Bytes) (of : Meaning) (block : NotedStatements) (active : ℕ → Bool)
      (number : ℕ) (sc : Scope) (scope : meaning.Scope) (s : Bindings) (names : ℕ → Meaning)
      → Place types owner see known may_hand given Stands loose result permits key counts active number sc scope s
      names → IsLent sc m x of → IsNewRegion sc region
      → GoodBlock block (with_reference r region (borrow_type m region of) sc)
      → MayHold permits key Stands (borrow_type m region of)
      → BesidesAll see loose (MayHold permits key Stands) may_hand (number + 1)
      (with_reference r region (borrow_type m region of) sc)
      (meaning.with_reference m (meaning.variable_of scope x) number r scope) block → AllRun types owner see known
      may_hand given Stands loose result permits key counts block
      → (Q : (ℕ → Meaning) → Type 0)
      → ((more : ℕ → Meaning) → Place types owner see known may_hand given Stands loose result permits key counts
      active (number + (1 + names_in_block block)) sc scope s more → Q more)
      → Lends types owner see known result loose permits key active number m (meaning.variable_of scope x) names
      (λ more of. RunsAll types owner see known result loose permits key more (number + 1)
      (meaning.with_reference m (meaning.variable_of scope x) number r scope) block of)
      × Q names
  borrowed_runs m x r region of block active number sc scope s names p its new good holds besides block_runs Q next = (
    lent_runs types owner see known may_hand given Stands loose result permits key counts active number sc scope s
        names p m x r region of block its new good holds besides block_runs,
    next names (later_on types owner see known may_hand given Stands loose result permits key counts active number sc
        scope s names p (number + (1 + names_in_block block)) (omega arith)),
  )

  told_apart : (e : NotedExpression) (all : NotedArms) (active : ℕ → Bool) (number : ℕ) (sc : Scope)
      (scope : meaning.Scope) (s : Bindings) (names : ℕ → Meaning)
      (p : Place types owner see known may_hand given Stands loose result permits key counts active number sc scope s
      names)
      (good : GoodCase sc e (heads_of all)) → ToldFits types see given active sc s (noted e) (type_of e) good.cases
  told_apart e all active number sc scope s names p good =
      told_fits types owner see known may_hand given Stands result active number sc scope s names p (noted e)
      (type_of e) good.cases
      (note_is types owner see known may_hand given Stands loose result permits key counts active number sc scope s
      names p e)
      (type_known sc p.knows e good.wants.0 (unwanted types owner see known may_hand given Stands loose result
      permits key counts active number sc scope s names p (mode_of e) good.wants.1))
      (lasts (type_of e) good.lasting) good.known

  mutual
    pub statement_runs : (st : NotedStatement) → StatementRuns st
    statement_runs (skip at) active number sc scope s names p good besides rest next =
        next names (later_on types owner see known may_hand given Stands loose result permits key counts active
        number sc scope s names p (number + 0) (omega arith))
    statement_runs (declare at binding name t e) active number sc scope s names p good besides rest next =
        let whole = written_known sc t good.of good.formed in (
          running s 0 good.of,
          wants_whole types owner see known may_hand given Stands loose result permits key counts active number sc
              scope s names p e good.of good.wants whole.0 whole.1 besides.0,
          drops types owner see known may_hand given Stands loose result permits key counts active number number sc
              scope s names p good.of whole.0
              (besides.1 good.of good.formed),
          next (put number (running s 0 good.of) names)
              (declared_runs t name (is_var binding) e active number sc scope s names p good),
        )
    statement_runs (destructure at binds e) active number sc scope s names p good besides rest next =
        taken_runs binds e active number sc scope s names p good besides.0 besides.1
        (Rest (destructure at binds e) active number scope rest) next
    statement_runs (assign at x path e) active number sc scope s names p good besides rest next =
        let there = p.knows.variables x.name good.variable good.known in (
          running s 0 good.of,
          wants_whole types owner see known may_hand given Stands loose result permits key counts active number sc
              scope s names p e good.of good.wants
              (part_known sc p.knows path good.variable.of good.of good.part there)
              (part_lasts types owner see known may_hand given Stands loose result permits key counts active number
              sc scope s names p path good.variable.of good.of good.part
              (p.knows.lasting x.name good.variable good.known)) besides,
          assigns types owner see known may_hand given Stands loose result permits key counts active number sc scope
              s names p x.name path good.variable good.of good.known good.part good.free,
          next names (later_on types owner see known may_hand given Stands loose result permits key counts active
              number sc scope s names p (number + 0) (omega arith)),
        )
    statement_runs (assign_through at r path e) active number sc scope s names p good besides rest next =
        let behind = put_known types owner see known may_hand given Stands loose result permits key counts active
        number sc scope s names p r.name path e good in (
          running s 0 good.of,
          region_running s 0 good.region,
          wants_whole types owner see known may_hand given Stands loose result permits key counts active number sc
              scope s names p e good.of good.wants
              (part_known sc p.knows path good.to good.of good.part behind.0)
              (part_lasts types owner see known may_hand given Stands loose result permits key counts active number
              sc scope s names p path good.to good.of good.part behind.1) besides,
          free_part types owner see known may_hand given Stands loose result permits key counts active number sc
              scope s names p path good.to good.of behind.0 good.part good.free,
          puts types owner see known may_hand given Stands loose result permits key counts active number sc scope s
              names p r.name path good.variable good.to good.of good.region good.known
              good.writes good.part,
          next names (later_on types owner see known may_hand given Stands loose result permits key counts active
              number sc scope s names p (number + 0) (omega arith)),
        )
    statement_runs (conditional at tests) active number sc scope s names p good besides rest next = (
      tests_run tests active number sc scope s names p good besides,
      next names (later_on types owner see known may_hand given Stands loose result permits key counts active number
          sc scope s names p (number + names_in_tests tests) (omega arith)),
    )
    statement_runs (conditional_else at tests block) active number sc scope s names p good besides rest next = (
      tests_run tests active number sc scope s names p good.0 besides.0,
      all_run block active (number + names_in_tests tests) sc scope s names
          (later_on types owner see known may_hand given Stands loose result permits key counts active number sc
          scope s names p (number + names_in_tests tests) (omega arith)) good.1 besides.1,
      next names
          (later_on types owner see known may_hand given Stands loose result permits key counts active number sc
          scope s names p (number + (names_in_tests tests + names_in_block block)) (omega arith)),
    )
    statement_runs (case_of at e all) active number sc scope s names p good besides rest next =
        let f = told_apart e all active number sc scope s names p good.0 in
        let fit = and_parts (list_all (λ one. count_by (is_for sc one) (heads_of all) == 1) good.0.cases)
        (list_all (λ head. is_some (case_of_arm sc good.0.cases head)) (heads_of all)) good.0.each in (
          f.of,
          f.told,
          f.tag,
          f.kinds,
          f.are,
          subst (λ u. IsWholeOf types owner see known result loose permits key active names scope e u) f.through_is
              (whole_of types owner see known may_hand given Stands result active number sc scope s names p loose
              permits key e (type_of e)
              good.0.wants.0 (unwanted types owner see known may_hand given Stands loose result permits key counts
              active number sc scope s names p (mode_of e) good.0.wants.1) besides.0 refl
              (lasts (type_of e) good.0.lasting)),
          f.has,
          (λ other parts is.
              let its = f.each other parts is in
              arms_run all active number sc scope s names p (noted e) (type_of e) good.0.cases f good.0.good good.1
              besides.1 other its.0 (map (through f.told) parts) its.1 its.2
              (one_arm sc (heads_of all) good.0.cases fit.0 other its.0 its.1)),
          next names (later_on types owner see known may_hand given Stands loose result permits key counts active
              number sc scope s names p (number + meaning.names_in_arms all) (omega arith)),
        )
    statement_runs (while_loop at e block) active number sc scope s names p good besides rest next = (
      wants_whole types owner see known may_hand given Stands loose result permits key counts active number sc scope
          s names p e mean.truth good.0
          (is_truth types owner see known may_hand given Stands loose result permits key counts active number sc
          scope s names p) refl besides.0,
      all_run block active number sc scope s names p good.1 besides.1,
      next names (later_on types owner see known may_hand given Stands loose result permits key counts active number
          sc scope s names p (number + names_in_block block) (omega arith)),
    )
    statement_runs (for_loop at name first last block) active number sc scope s names p good besides rest next =
        let kind = integer_is (type_of first) good.0.integer in
        let same : type_of first ≡ type_of last = same_is (type_of first) (type_of last) good.0.paired.one_type in
        let modes = bounds_modes types owner see known may_hand given Stands loose result permits key counts active
        number sc scope s names p (is_bare first) (is_bare last) first last
        good.0.paired.modes good.0.good_first good.0.good_last in (
          kind.0,
          bound_whole types owner see known may_hand given Stands loose result permits key counts active number sc
              scope s names p first kind.0 good.0.good_first modes.0 besides.0 kind.1,
          bound_whole types owner see known may_hand given Stands loose result permits key counts active number sc
              scope s names p last kind.0 good.0.good_last modes.1 besides.1 (sym same ∙ kind.1),
          counter_fine types owner see known may_hand given Stands loose result permits key counts active number sc
              scope s names p kind.0,
          all_run block active (number + 1) (with_variable (fixed_variable name.name (type_of first)) sc)
              (meant.with_counter see number name.name first scope) s (put number (integer kind.0) names)
              (place_with types owner see known may_hand given Stands result active number sc scope s names p
              (number + 1)
              (fixed_variable name.name (type_of first)) (see.type_of (noted first)) (integer kind.0) (omega arith)
              (type_known sc p.knows first good.0.good_first modes.0)
              (subst (λ u. is_lasting u ≡ true) (sym kind.1) refl)
              (note_is types owner see known may_hand given Stands loose result permits key counts active number sc
              scope s names p first) (λ z. ap (running s z) (sym kind.1))) good.1
              (besides.2 (subst (MayHold permits key Stands) (sym kind.1) (λ more stands. counts kind.0))),
          next names (later_on types owner see known may_hand given Stands loose result permits key counts active
              number sc scope s names p (number + (1 + names_in_block block)) (omega arith)),
        )
    statement_runs (borrow_in at access.Read x r region block stop) active number sc scope s names p good besides rest
        next =
        borrowed_runs mode.Read x.name r.name region.name good.0 block active number sc scope s names p good.1 besides.0
        good.2 (besides.1 good.0 good.1).0 (besides.1 good.0 good.1).1 (all_run block)
        (Rest (borrow_in at access.Read x r region block stop) active number scope rest) next
    statement_runs (borrow_in at access.Write x r region block stop) active number sc scope s names p good besides rest
        next =
        borrowed_runs mode.Write x.name r.name region.name good.0 block active number sc scope s names p good.1
        besides.0
        good.2 (besides.1 good.0 good.1).0 (besides.1 good.0 good.1).1 (all_run block)
        (Rest (borrow_in at access.Write x r region block stop) active number scope rest) next
    statement_runs (borrow_typed at r t m x block stop) active number sc scope s names p good besides rest next =
        let its = good.2 in
        let same : borrow_type m good.0 its.lends ≡ good.1 = same_is (borrow_type m good.0 its.lends) good.1
        its.is_same in
        let more = besides good.0 good.1 its in
        borrowed_runs m x.name r.name good.0 its.lends block active number sc scope s names p its.is_lent more.0
        (subst (λ u. GoodBlock block (with_reference r.name good.0 u sc)) (sym same) good.3)
        (subst (MayHold permits key Stands) (sym same) more.1)
        (subst (λ u. BesidesAll see loose (MayHold permits key Stands) may_hand (number + 1)
        (with_reference r.name good.0 u sc)
        (meaning.with_reference m (meaning.variable_of scope x.name) number r.name scope) block) (sym same) more.2)
        (all_run block) (Rest (borrow_typed at r t m x block stop) active number scope rest) next
    statement_runs (discard at e) active number sc scope s names p good besides rest next =
        let mode = unwanted types owner see known may_hand given Stands loose result permits key counts active number
        sc scope s names p (mode_of e) good.0.1 in (
          (λ z off. (
            running s z (type_of e),
            of_each types owner see known may_hand given Stands loose result permits key counts active number sc
                scope s names p e good.0.0 mode besides z,
            inl (p.round.free s sc.regions z (type_of e) p.good (type_known sc p.knows e good.0.0 mode) good.1),
          )),
          next names (later_on types owner see known may_hand given Stands loose result permits key counts active
              number sc scope s names p (number + 0) (omega arith)),
        )
    statement_runs (return_of at e) active number sc scope s names p good besides rest next =
        λ z off. subst (λ u. IsOf types owner see known names z (with_token z active) scope e u)
        (ap (running s z) (had sc e sc.result good.0 good.1) ∙ p.returns z)
        (of_each types owner see known may_hand given Stands loose result permits key counts active number sc scope s
        names p e good.0
        (wanted types owner see known may_hand given Stands loose result permits key counts active number sc scope s
        names p (mode_of e) sc.result good.1 p.knows.result.0) besides z)

    pub all_run : (block : NotedStatements) → AllRun types owner see known may_hand given Stands loose result permits
        key counts block
    all_run no_statements active number sc scope s names p good besides = tt
    all_run (statements st rest) active number sc scope s names p good besides =
        statement_runs st active number sc scope s names p good.0 besides.0 rest
        (λ more place. all_run rest active (number + names_in st) (after st sc) (meant.after see number st scope) s more
        place good.2 besides.1)

    tests_run : (tests : NotedBranches) → TestsRun tests
    tests_run no_branches active number sc scope s names p good besides = tt
    tests_run (branches e block rest) active number sc scope s names p good besides = (
      wants_whole types owner see known may_hand given Stands loose result permits key counts active number sc scope
          s names p e mean.truth good.0
          (is_truth types owner see known may_hand given Stands loose result permits key counts active number sc
          scope s names p) refl besides.0,
      all_run block active number sc scope s names p good.1 besides.1,
      tests_run rest active (number + names_in_block block) sc scope s names
          (later_on types owner see known may_hand given Stands loose result permits key counts active number sc
          scope s names p (number + names_in_block block) (omega arith)) good.2 besides.2,
    )

    arms_run : (all : NotedArms) → ArmsRun all
    arms_run no_arms active number sc scope s names p n t cases f good blocks besides k one kinds at are some =
        absurd (true≢false (sym some))
    arms_run (arms at name binds block rest) active number sc scope s names p n t cases f good blocks besides k one
        kinds
        found are some =
        by (means_case see n name.name k) refl
        (λ is. arm_runs active number sc scope s names p n t cases f name binds block good.0 k one kinds found are
        besides.0
        blocks.0 (besides.1 k) (all_run block) is)
        (λ is. arms_run rest active (number + (length binds + names_in_block block)) sc scope s names
        (later_on types owner see known may_hand given Stands loose result permits key counts active number sc scope
        s names p (number + (length binds + names_in_block block)) (omega arith)) n t
        cases f good.1 blocks.1 besides.2 k one kinds found are
        (any_rest (is_for sc one (record { name = name.name; binds = binds }))
        (list_any (is_for sc one) (heads_of rest))
        some (arm_other sc s active n t cases f (record { name = name.name; binds = binds }) good.0 k one found is)))
      where
        by : (b : Bool) → means_case see n name.name k ≡ b
            → (means_case see n name.name k ≡ true → Binds active number sc scope s names p n k binds block kinds)
            → (means_case see n name.name k ≡ false
            → RunsArms types owner see known result loose permits key active
            (number + (length binds + names_in_block block)) scope n
            rest k kinds names)
            → Either b (Binds active number sc scope s names p n k binds block kinds)
            (RunsArms types owner see known result loose permits key active
            (number + (length binds + names_in_block block)) scope n
            rest k kinds names)
        by true is here later = here is
        by false is here later = later is
